-- A value that is read is the value that was written, and what was written is read again. Readers in a row are so too.
use Rattle.std.proofs.Common.{◌≡◌, ◌⊎◌, ℕ, suc, ◌≤◌, List, [], ◌∷◌, ◌++◌, length, Result, Ok, Err, refl, sym, ap, subst, ◌∙◌, append_assoc, arith, inl, inr}
use Rattle.std.proofs.lemmas.List.{length-append, append-nil}
use Rattle.grammar.specs.Readers.{◌>>=◌, ◌▷◌, ◌▷▷◌, done_at, whole}

-- the value of a step that did not fail
pub bind_ok : {A B : Type 0} (r : Result A ℕ) (f : A → Result B ℕ) (y : B) → (r >>= f) ≡ Ok y → (x : A) × (r ≡ Ok x) × (f x ≡ Ok y)
bind_ok (Ok x) f y e = (x, refl, e)
bind_ok (Err d) f y e = absurd cc

abbrev done : {A : Type 0} → A → Result A ℕ
done x = Ok x

pub ok_is : {A : Type 0} (x y : A) → done x ≡ done y → x ≡ y
ok_is x y e = cc

abbrev failed : {A : Type 0} → ℕ → Result A ℕ
failed e = Err e

pub err_is : {A : Type 0} (d e : ℕ) → failed {A = A} e ≡ failed d → d ≡ e
err_is d e h = cc

-- no reading both gives a value and fails
pub not_both : {A : Type 0} (x : A) (left : ℕ) → done x ≡ Err left → ⊥
not_both x left e = cc

-- where a step failed
pub bind_err : {A B : Type 0} (r : Result A ℕ) (f : A → Result B ℕ) (d : ℕ) → (r >>= f) ≡ Err d → (r ≡ Err d) ⊎ ((x : A) × (r ≡ Ok x) × (f x ≡ Err d))
bind_err {A} {B} (Ok x) f d e = inr (x, refl, e)
bind_err {A} {B} (Err c) f d e = inl (let same : d ≡ c = err_is {A = B} d c e in ap (failed {A = A}) (sym same))

-- what a reader took from the front; Known is what is known of all bytes
pub record Takes (Known : List ℕ → Type 0) (bytes text rest : List ℕ) : Type 0 where
  pub parts : bytes ≡ text ++ rest
  pub known : Known rest

-- A reader: what it takes is spelled so, what is spelled so is taken where what follows may follow, a value may follow
-- another, and a fault lies in the bytes.
pub record Lawful (Known Follows : List ℕ → Type 0) {A : Type 0} (f : List ℕ → Result (A × List ℕ) ℕ) (spell : A → List ℕ) (Fits : A → Type 0) : Type 0 where
  pub takes : (bytes : List ℕ) (x : A) (rest : List ℕ) → Known bytes → f bytes ≡ Ok (x, rest) → Takes Known bytes (spell x) rest × Fits x
  pub again : (x : A) (rest : List ℕ) → Fits x → Follows rest → f (spell x ++ rest) ≡ Ok (x, rest)
  pub begins : (x : A) (rest : List ℕ) → Follows rest → Follows (spell x ++ rest)
  pub fails : (bytes : List ℕ) (left : ℕ) → Known bytes → f bytes ≡ Err left → left ≤ length bytes

pub rest_fits : (bytes text rest : List ℕ) → bytes ≡ text ++ rest → length rest ≤ length bytes
rest_fits bytes text rest e = omega (arith, ap length e, length-append text rest)

pub takes_both : (Known : List ℕ → Type 0) (a x b y c : List ℕ) → Takes Known a x b → Takes Known b y c → Takes Known a (x ++ y) c
takes_both Known a x b y c p q = record { parts = p.parts ∙ ap (λ (t : List ℕ). x ++ t) q.parts ∙ sym (append_assoc x y c); known = q.known }

-- ---- two in a row, of which the first may bound the second

module _ (Known Follows : List ℕ → Type 0) where
  given_takes : {A B : Type 0} (f : List ℕ → Result (A × List ℕ) ℕ) (sf : A → List ℕ) (Ff : A → Type 0) (g : A → List ℕ → Result (B × List ℕ) ℕ) (sg : B → List ℕ) (Fg : A → B → Type 0) → Lawful Known Follows f sf Ff → ((a : A) → Lawful Known Follows (g a) sg (Fg a))
      → (bytes : List ℕ) (x : A × B) (rest : List ℕ) → Known bytes → (f ▷▷ g) bytes ≡ Ok (x, rest) → Takes Known bytes (sf x.0 ++ sg x.1) rest × (Ff x.0 × Fg x.0 x.1)
  given_takes {A} {B} f sf Ff g sg Fg first second bytes x rest known e =
      let a = bind_ok (f bytes) (λ a. g a.0 a.1 >>= λ b. Ok ((a.0, b.0), b.1)) (x, rest) e in
      let b = bind_ok (g a.0.0 a.0.1) (λ b. Ok ((a.0.0, b.0), b.1)) (x, rest) a.2 in
      let t = first.takes bytes a.0.0 a.0.1 known a.1 in
      let u = (second a.0.0).takes a.0.1 b.0.0 b.0.1 t.0.known b.1 in
      let made : (A × B) × List ℕ = ((a.0.0, b.0.0), b.0.1) in
      subst (λ (p : (A × B) × List ℕ). Takes Known bytes (sf p.0.0 ++ sg p.0.1) p.1 × (Ff p.0.0 × Fg p.0.0 p.0.1)) (ok_is made (x, rest) b.2) (takes_both Known bytes (sf a.0.0) a.0.1 (sg b.0.0) b.0.1 t.0 u.0, (t.1, u.1))

  given_again : {A B : Type 0} (f : List ℕ → Result (A × List ℕ) ℕ) (sf : A → List ℕ) (Ff : A → Type 0) (g : A → List ℕ → Result (B × List ℕ) ℕ) (sg : B → List ℕ) (Fg : A → B → Type 0) → Lawful Known Follows f sf Ff → ((a : A) → Lawful Known Follows (g a) sg (Fg a))
      → (x : A × B) (rest : List ℕ) → Ff x.0 × Fg x.0 x.1 → Follows rest → (f ▷▷ g) ((sf x.0 ++ sg x.1) ++ rest) ≡ Ok (x, rest)
  given_again f sf Ff g sg Fg first second x rest fits follows =
      ap (f ▷▷ g) (append_assoc (sf x.0) (sg x.1) rest) ∙ rw (first.again x.0 (sg x.1 ++ rest) fits.0 ((second x.0).begins x.1 rest follows), (second x.0).again x.1 rest fits.1 follows) refl

  given_fails : {A B : Type 0} (f : List ℕ → Result (A × List ℕ) ℕ) (sf : A → List ℕ) (Ff : A → Type 0) (g : A → List ℕ → Result (B × List ℕ) ℕ) (sg : B → List ℕ) (Fg : A → B → Type 0) → Lawful Known Follows f sf Ff → ((a : A) → Lawful Known Follows (g a) sg (Fg a))
      → (bytes : List ℕ) (left : ℕ) → Known bytes → (f ▷▷ g) bytes ≡ Err left → left ≤ length bytes
  given_fails {A} {B} f sf Ff g sg Fg first second bytes left known e =
      elim (bind_err (f bytes) (λ a. g a.0 a.1 >>= λ b. Ok ((a.0, b.0), b.1)) left e) [
        | inl h ↦ first.fails bytes left known h
        | inr a ↦
            let t = (first.takes bytes a.0.0 a.0.1 known a.1).0 in
            let fit = rest_fits bytes (sf a.0.0) a.0.1 t.parts in
            elim (bind_err (g a.0.0 a.0.1) (λ b. Ok ((a.0.0, b.0), b.1)) left a.2) [
              | inl h ↦ let le = (second a.0.0).fails a.0.1 left t.known h in omega arith
              | inr b ↦ absurd (let k = b.2 in cc)
            ]
      ]

  pub lawful_given : {A B : Type 0} {f : List ℕ → Result (A × List ℕ) ℕ} {sf : A → List ℕ} {Ff : A → Type 0} {g : A → List ℕ → Result (B × List ℕ) ℕ} {sg : B → List ℕ} {Fg : A → B → Type 0} → Lawful Known Follows f sf Ff → ((a : A) → Lawful Known Follows (g a) sg (Fg a))
      → Lawful Known Follows (f ▷▷ g) (λ x. sf x.0 ++ sg x.1) (λ x. Ff x.0 × Fg x.0 x.1)
  lawful_given {A} {B} {f} {sf} {Ff} {g} {sg} {Fg} first second = record {
    takes = given_takes f sf Ff g sg Fg first second;
    again = given_again f sf Ff g sg Fg first second;
    begins = λ x rest follows. subst Follows (sym (append_assoc (sf x.0) (sg x.1) rest)) (first.begins x.0 (sg x.1 ++ rest) ((second x.0).begins x.1 rest follows));
    fails = given_fails f sf Ff g sg Fg first second;
  }

  -- two in a row
  pub lawful_then : {A B : Type 0} {f : List ℕ → Result (A × List ℕ) ℕ} {sf : A → List ℕ} {Ff : A → Type 0} {g : List ℕ → Result (B × List ℕ) ℕ} {sg : B → List ℕ} {Fg : B → Type 0} → Lawful Known Follows f sf Ff → Lawful Known Follows g sg Fg
      → Lawful Known Follows (f ▷ g) (λ x. sf x.0 ++ sg x.1) (λ x. Ff x.0 × Fg x.1)
  lawful_then {A} {B} {f} {sf} {Ff} {g} {sg} {Fg} first second =
      lawful_given {f = f} {g = λ _. g} {Fg = λ _. Fg} first (λ _. second)

-- ---- readers of all the bytes

done_ok : {B : Type 0} (t : B) (rest : List ℕ) (s : B) → done_at t rest ≡ Ok s → (rest ≡ []) × (t ≡ s)
done_ok t [] s e = (refl, ok_is t s e)
done_ok t (b ∷ bytes) s e = absurd cc

done_fails : {B : Type 0} (t : B) (rest : List ℕ) (left : ℕ) → done_at t rest ≡ Err left → left ≤ length rest
done_fails t [] left e = absurd cc
done_fails {B} t (b ∷ bytes) left e = let same : left ≡ suc (length bytes) = err_is {A = B} left (suc (length bytes)) e in omega arith

-- what is known of a reader of all the bytes: what it takes is spelled so, what is spelled so is taken, and a fault lies
-- in the bytes
pub record Whole (Known : List ℕ → Type 0) {A B : Type 0} (read : List ℕ → Result B ℕ) (make : A → B) (spell : A → List ℕ) (Fits : A → Type 0) : Type 0 where
  pub takes : (bytes : List ℕ) (s : B) → Known bytes → read bytes ≡ Ok s → (x : A) × (bytes ≡ spell x) × Fits x × (make x ≡ s)
  pub again : (x : A) → Fits x → read (spell x) ≡ Ok (make x)
  pub fails : (bytes : List ℕ) (left : ℕ) → Known bytes → read bytes ≡ Err left → left ≤ length bytes

module _ (Known Follows : List ℕ → Type 0) (end : Follows []) where
  pub lawful_whole : {A B : Type 0} {f : List ℕ → Result (A × List ℕ) ℕ} {spell : A → List ℕ} {Fits : A → Type 0} → Lawful Known Follows f spell Fits
      → (make : A → B) → Whole Known (whole make f) make spell Fits
  lawful_whole {A} {B} {f} {spell} {Fits} laws make = record {
    takes = λ bytes s known e.
        let a = bind_ok (f bytes) (λ x. done_at (make x.0) x.1) s e in
        let d = done_ok (make a.0.0) a.0.1 s a.2 in
        let t = laws.takes bytes a.0.0 a.0.1 known a.1 in
        (a.0.0, t.0.parts ∙ ap (λ (r : List ℕ). spell a.0.0 ++ r) d.0 ∙ append-nil (spell a.0.0), t.1, d.1);
    again = λ x fits. ap (whole make f) (sym (append-nil (spell x))) ∙ rw (laws.again x [] fits end) refl;
    fails = λ bytes left known e.
        elim (bind_err (f bytes) (λ x. done_at (make x.0) x.1) left e) [
          | inl h ↦ laws.fails bytes left known h
          | inr a ↦
              let fit = rest_fits bytes (spell a.0.0) a.0.1 (laws.takes bytes a.0.0 a.0.1 known a.1).0.parts in
              let le = done_fails (make a.0.0) a.0.1 left a.2 in omega arith
        ];
  }
