-- Readers made of readers are lawful where those are.
use Rattle.std.proofs.Common.{◌≡◌, ℕ, zero, suc, ◌+◌, ◌^◌, ◌<◌, ◌≤◌, Bool, true, false, cond, ltb, List, [], ◌∷◌, ◌++◌, length, take, drop, Option, Some, None, Result, Ok, Err, IsTrue, refl, sym, ap, subst, ◌∙◌, append_assoc, arith, inl, inr, ◌⊎◌}
use Rattle.std.specs.Prelude.{All}
use Rattle.std.specs.List.{flat_map}
use Rattle.std.specs.Int.{Width, w16, w32, w64, byte_len, from_be_bytes, to_be_bytes}
use Rattle.std.proofs.lemmas.Bool.{cases_lt, ltb-false}
use Rattle.std.proofs.lemmas.List.{take-append-drop, length-take, get_or-drop, get_or-take, get_or_past}
use Rattle.std.proofs.lemmas.List.Concat.{flat_map-cons}
use Rattle.std.proofs.lemmas.List.Elements.{All-nil, All-cons, All-head, All-tail}
use Rattle.grammar.specs.Readers.{◌>>=◌, ◌▷▷◌}
use Rattle.grammar.specs.Words.{spelled}
use Rattle.grammar.specs.Fields.{number_at, checked}
use Rattle.grammar.proofs.Laws.{Takes, bind_ok, bind_err, ok_is, err_is, takes_both, rest_fits, lawful_given}
use Rattle.grammar.proofs.FieldLaws.{IsBytes, Anything, LawfulBytes, IsWide, guard_ok, test_ok, lawful_checked, wide16, wide32, wide64, number_again, number_fails}
use Rattle.grammar.proofs.WordLaws.{spelled_err}
use Rattle.message_fields.specs.Parts.{made, kept, byte_as, times}

pub bytes_tail : (b : ℕ) (bytes : List ℕ) → IsBytes (b ∷ bytes) → IsBytes bytes
bytes_tail b bytes h i = h (suc i)

pub bytes_drop : (n : ℕ) (bytes : List ℕ) → IsBytes bytes → IsBytes (drop n bytes)
bytes_drop n bytes h i = rw get_or-drop (h (n + i))

pub bytes_take : (n : ℕ) (bytes : List ℕ) → IsBytes bytes → IsBytes (take n bytes)
bytes_take n bytes h i =
    elim (cases_lt i n) [
      | inl lt ↦ rw (get_or-take n bytes i 0 lt) (h i)
      | inr le ↦ rw (get_or_past (take n bytes) i 0 (omega (arith, length-take n bytes))) (omega arith)
    ]

-- ---- what is made of a value

made_takes : {A B : Type 0} (f : List ℕ → Result (A × List ℕ) ℕ) (spell : A → List ℕ) (Fits : A → Type 0) → LawfulBytes f spell Fits → (make : A → B) (unmake : B → A) (MadeFits : B → Type 0)
    → ((x : A) → Fits x → (unmake (make x) ≡ x) × MadeFits (make x))
    → (bytes : List ℕ) (y : B) (rest : List ℕ) → IsBytes bytes → made make f bytes ≡ Ok (y, rest) → Takes IsBytes bytes (spell (unmake y)) rest × MadeFits y
made_takes {A} {B} f spell Fits laws make unmake MadeFits there bytes y rest known e =
    let a = bind_ok (f bytes) (λ x. Ok (make x.0, x.1)) (y, rest) e in
    let t = laws.takes bytes a.0.0 a.0.1 known a.1 in
    let back = there a.0.0 t.1 in
    let parts : bytes ≡ spell (unmake (make a.0.0)) ++ a.0.1 = t.0.parts ∙ ap (λ (x : A). spell x ++ a.0.1) (sym back.0) in
    subst (λ (p : B × List ℕ). Takes IsBytes bytes (spell (unmake p.0)) p.1 × MadeFits p.0) (ok_is (make a.0.0, a.0.1) (y, rest) a.2) (record { parts = parts; known = t.0.known }, back.1)

made_again : {A B : Type 0} (f : List ℕ → Result (A × List ℕ) ℕ) (spell : A → List ℕ) (Fits : A → Type 0) → LawfulBytes f spell Fits → (make : A → B) (unmake : B → A) (MadeFits : B → Type 0)
    → ((y : B) → MadeFits y → Fits (unmake y) × (make (unmake y) ≡ y))
    → (y : B) (rest : List ℕ) → MadeFits y → made make f (spell (unmake y) ++ rest) ≡ Ok (y, rest)
made_again {A} {B} f spell Fits laws make unmake MadeFits here y rest fits =
    let h = here y fits in
    ap (λ (r : Result (A × List ℕ) ℕ). r >>= λ x. Ok (make x.0, x.1)) (laws.again (unmake y) rest h.0 tt) ∙ ap (λ (v : B). Ok (v, rest)) h.1

made_fails : {A B : Type 0} (f : List ℕ → Result (A × List ℕ) ℕ) (spell : A → List ℕ) (Fits : A → Type 0) → LawfulBytes f spell Fits → (make : A → B)
    → (bytes : List ℕ) (left : ℕ) → IsBytes bytes → made make f bytes ≡ Err left → left ≤ length bytes
made_fails f spell Fits laws make bytes left known e =
    elim (bind_err (f bytes) (λ x. Ok (make x.0, x.1)) left e) [
      | inl h ↦ laws.fails bytes left known h
      | inr a ↦ absurd (let k = a.2 in cc)
    ]

pub lawful_made : {A B : Type 0} {f : List ℕ → Result (A × List ℕ) ℕ} {spell : A → List ℕ} {Fits : A → Type 0} → LawfulBytes f spell Fits → (make : A → B) (unmake : B → A) (MadeFits : B → Type 0)
    → ((x : A) → Fits x → (unmake (make x) ≡ x) × MadeFits (make x)) → ((y : B) → MadeFits y → Fits (unmake y) × (make (unmake y) ≡ y))
    → LawfulBytes (made make f) (λ y. spell (unmake y)) MadeFits
lawful_made {A} {B} {f} {spell} {Fits} laws make unmake MadeFits there here = record {
  takes = made_takes f spell Fits laws make unmake MadeFits there;
  again = λ y rest fits _. made_again f spell Fits laws make unmake MadeFits here y rest fits;
  begins = λ y rest _. tt;
  fails = made_fails f spell Fits laws make;
}

-- ---- a value that passes a test

kept_takes : {A : Type 0} (ok : A → Bool) (f : List ℕ → Result (A × List ℕ) ℕ) (spell : A → List ℕ) (Fits : A → Type 0) → LawfulBytes f spell Fits
    → (bytes : List ℕ) (x : A) (rest : List ℕ) → IsBytes bytes → kept ok f bytes ≡ Ok (x, rest) → Takes IsBytes bytes (spell x) rest × (Fits x × IsTrue (ok x))
kept_takes {A} ok f spell Fits laws bytes x rest known e =
    let a = bind_ok (f bytes) (λ x. cond (ok x.0) (Ok x) (Err (length bytes))) (x, rest) e in
    let g = test_ok (ok a.0.0) (length bytes) a.0 (x, rest) a.2 in
    let t = laws.takes bytes a.0.0 a.0.1 known a.1 in
    subst (λ (p : A × List ℕ). Takes IsBytes bytes (spell p.0) p.1 × (Fits p.0 × IsTrue (ok p.0))) g.1 (t.0, (t.1, g.0))

kept_again : {A : Type 0} (ok : A → Bool) (f : List ℕ → Result (A × List ℕ) ℕ) (spell : A → List ℕ) (Fits : A → Type 0) → LawfulBytes f spell Fits
    → (x : A) (rest : List ℕ) → Fits x × IsTrue (ok x) → kept ok f (spell x ++ rest) ≡ Ok (x, rest)
kept_again ok f spell Fits laws x rest fits = rw (laws.again x rest fits.0 tt, fits.1) refl

kept_err : {A : Type 0} (b : Bool) (x : A) (d left : ℕ) → cond b (Ok x) (Err d) ≡ Err left → left ≡ d
kept_err true x d left e = absurd cc
kept_err false x d left e = cc

kept_fails : {A : Type 0} (ok : A → Bool) (f : List ℕ → Result (A × List ℕ) ℕ) (spell : A → List ℕ) (Fits : A → Type 0) → LawfulBytes f spell Fits
    → (bytes : List ℕ) (left : ℕ) → IsBytes bytes → kept ok f bytes ≡ Err left → left ≤ length bytes
kept_fails ok f spell Fits laws bytes left known e =
    elim (bind_err (f bytes) (λ x. cond (ok x.0) (Ok x) (Err (length bytes))) left e) [
      | inl h ↦ laws.fails bytes left known h
      | inr a ↦ let z = kept_err (ok a.0.0) a.0 (length bytes) left a.2 in omega arith
    ]

pub lawful_kept : {A : Type 0} (ok : A → Bool) {f : List ℕ → Result (A × List ℕ) ℕ} {spell : A → List ℕ} {Fits : A → Type 0} → LawfulBytes f spell Fits → LawfulBytes (kept ok f) spell (λ x. Fits x × IsTrue (ok x))
lawful_kept ok {f} {spell} {Fits} laws = record {
  takes = kept_takes ok f spell Fits laws;
  again = λ x rest fits _. kept_again ok f spell Fits laws x rest fits;
  begins = λ x rest _. tt;
  fails = kept_fails ok f spell Fits laws;
}

-- ---- numbers without a rule

number_takes : (w : Width) (limit : ℕ) (wide : IsWide w limit) → ((bytes : List ℕ) → length bytes ≡ byte_len w → IsBytes bytes → from_be_bytes w bytes < limit)
    → (bytes : List ℕ) (n : ℕ) (rest : List ℕ) → IsBytes bytes → number_at w bytes ≡ Ok (n, rest) → Takes IsBytes bytes (to_be_bytes w n) rest × (n < limit)
number_takes w limit wide small bytes n rest fits e =
    let g = guard_ok (ltb (length bytes) (byte_len w)) 0 (from_be_bytes w (take (byte_len w) bytes), drop (byte_len w) bytes) (n, rest) e in
    let long : byte_len w ≤ length bytes = ltb-false _ _ g.0 in
    let len : length (take (byte_len w) bytes) ≡ byte_len w = omega (arith, length-take (byte_len w) bytes) in
    let front_fits = bytes_take (byte_len w) bytes fits in
    let front = wide.back (take (byte_len w) bytes) len front_fits in
    subst (λ (p : ℕ × List ℕ). Takes IsBytes bytes (to_be_bytes w p.0) p.1 × (p.0 < limit)) g.1
    (record { parts = rw front (sym (take-append-drop (byte_len w) bytes)); known = bytes_drop (byte_len w) bytes fits }, small (take (byte_len w) bytes) len front_fits)

lawful_number : {w : Width} {limit : ℕ} → IsWide w limit → ((bytes : List ℕ) → length bytes ≡ byte_len w → IsBytes bytes → from_be_bytes w bytes < limit) → LawfulBytes (number_at w) (λ n. to_be_bytes w n) (λ n. n < limit)
lawful_number {w} {limit} wide small = record { takes = number_takes w limit wide small; again = λ n rest fits _. number_again w limit wide n rest fits; begins = λ n rest _. tt; fails = λ bytes left _ e. number_fails w bytes left e }

pub lawful_u16 : LawfulBytes (number_at w16) (λ n. to_be_bytes w16 n) (λ n. n < 2 ^ 16)
lawful_u16 = lawful_number wide16 (λ bytes len fits. let a = fits 0 in let b = fits 1 in omega arith)

pub lawful_u32 : LawfulBytes (number_at w32) (λ n. to_be_bytes w32 n) (λ n. n < 2 ^ 32)
lawful_u32 = lawful_number wide32 (λ bytes len fits. let a = fits 0 in let b = fits 1 in let c = fits 2 in let d = fits 3 in omega arith)

pub lawful_u64 : LawfulBytes (number_at w64) (λ n. to_be_bytes w64 n) (λ n. n < 2 ^ 64)
lawful_u64 = lawful_number wide64 (λ bytes len fits. let a = fits 0 in let b = fits 1 in let c = fits 2 in let d = fits 3 in let e = fits 4 in let f = fits 5 in let g = fits 6 in let h = fits 7 in omega arith)

-- ---- bytes with a meaning

pub spelled_ok : {A : Type 0} (o : Option A) (rest : List ℕ) (left : ℕ) (y : A) (after : List ℕ) → spelled o rest left ≡ Ok (y, after) → (o ≡ Some y) × (rest ≡ after)
spelled_ok {A} (Some x) rest left y after e =
    let same = ok_is (x, rest) (y, after) e in (ap (λ (p : A × List ℕ). Some p.0) same, ap (λ (p : A × List ℕ). p.1) same)
spelled_ok None rest left y after e = absurd cc

byte_takes : {A : Type 0} (meaning : ℕ → Option A) (number : A → ℕ) (Fits : A → Type 0) → ((b : ℕ) (x : A) → b < 256 → meaning b ≡ Some x → (number x ≡ b) × Fits x)
    → (bytes : List ℕ) (x : A) (rest : List ℕ) → IsBytes bytes → byte_as meaning bytes ≡ Ok (x, rest) → Takes IsBytes bytes (number x ∷ []) rest × Fits x
byte_takes meaning number Fits laws [] x rest known e = absurd cc
byte_takes meaning number Fits laws (b ∷ bytes) x rest known e =
    let s = spelled_ok (meaning b) bytes (length (b ∷ bytes)) x rest e in
    let t = laws b x (known 0) s.0 in
    (record { parts = rw (t.0, s.1) refl; known = subst (λ (r : List ℕ). IsBytes r) s.1 (bytes_tail b bytes known) }, t.1)

byte_fails : {A : Type 0} (meaning : ℕ → Option A) (bytes : List ℕ) (left : ℕ) → byte_as meaning bytes ≡ Err left → left ≤ length bytes
byte_fails {A} meaning [] left e = let z : left ≡ 0 = err_is {A = A × List ℕ} left 0 e in omega arith
byte_fails meaning (b ∷ bytes) left e = let same = spelled_err (meaning b) bytes (length (b ∷ bytes)) left e in omega arith

pub lawful_byte : {A : Type 0} (meaning : ℕ → Option A) (number : A → ℕ) (Fits : A → Type 0) → ((b : ℕ) (x : A) → b < 256 → meaning b ≡ Some x → (number x ≡ b) × Fits x) → ((x : A) → Fits x → meaning (number x) ≡ Some x)
    → LawfulBytes (byte_as meaning) (λ x. number x ∷ []) Fits
lawful_byte meaning number Fits there here = record {
  takes = byte_takes meaning number Fits there;
  again = λ x rest fits _. ap (λ o. spelled o rest (suc (length rest))) (here x fits);
  begins = λ x rest _. tt;
  fails = λ bytes left _ e. byte_fails meaning bytes left e;
}

-- ---- so many values

times_take : {A : Type 0} (f : List ℕ → Result (A × List ℕ) ℕ) (spell : A → List ℕ) (Fits : A → Type 0) → LawfulBytes f spell Fits
    → (n : ℕ) (bytes : List ℕ) (xs : List A) (rest : List ℕ) → IsBytes bytes → times f n bytes ≡ Ok (xs, rest) → Takes IsBytes bytes (flat_map spell xs) rest × ((length xs ≡ n) × All Fits xs)
unfolding times
times_take {A} f spell Fits laws zero bytes xs rest known e =
    subst (λ (y : List A × List ℕ). Takes IsBytes bytes (flat_map spell y.0) y.1 × ((length y.0 ≡ 0) × All Fits y.0)) (ok_is ([], bytes) (xs, rest) e) (record { parts = refl; known = known }, (refl, All-nil Fits))
times_take {A} f spell Fits laws (suc n) bytes xs rest known e =
    let a = bind_ok (f bytes) (λ first. times f n first.1 >>= λ others. Ok (first.0 ∷ others.0, others.1)) (xs, rest) e in
    let b = bind_ok (times f n a.0.1) (λ others. Ok (a.0.0 ∷ others.0, others.1)) (xs, rest) a.2 in
    let first = laws.takes bytes a.0.0 a.0.1 known a.1 in
    let second = times_take f spell Fits laws n a.0.1 b.0.0 b.0.1 first.0.known b.1 in
    let both = takes_both IsBytes bytes (spell a.0.0) a.0.1 (flat_map spell b.0.0) b.0.1 first.0 second.0 in
    let all : List A × List ℕ = (a.0.0 ∷ b.0.0, b.0.1) in
    subst (λ (y : List A × List ℕ). Takes IsBytes bytes (flat_map spell y.0) y.1 × ((length y.0 ≡ suc n) × All Fits y.0)) (ok_is all (xs, rest) b.2)
    (rw flat_map-cons both, (ap suc second.1.0, All-cons Fits a.0.0 b.0.0 first.1 second.1.1))

times_again : {A : Type 0} (f : List ℕ → Result (A × List ℕ) ℕ) (spell : A → List ℕ) (Fits : A → Type 0) → LawfulBytes f spell Fits
    → (xs : List A) (rest : List ℕ) → All Fits xs → times f (length xs) (flat_map spell xs ++ rest) ≡ Ok (xs, rest)
unfolding times
times_again f spell Fits laws [] rest fits = refl
times_again f spell Fits laws (x ∷ xs) rest fits =
    let regrouped : flat_map spell (x ∷ xs) ++ rest ≡ spell x ++ (flat_map spell xs ++ rest) = ap (λ (t : List ℕ). t ++ rest) (flat_map-cons spell x xs) ∙ append_assoc (spell x) (flat_map spell xs) rest in
    ap (times f (suc (length xs))) regrouped ∙ rw (laws.again x (flat_map spell xs ++ rest) (All-head Fits x xs fits) tt, times_again f spell Fits laws xs rest (All-tail Fits x xs fits)) refl

times_fail : {A : Type 0} (f : List ℕ → Result (A × List ℕ) ℕ) (spell : A → List ℕ) (Fits : A → Type 0) → LawfulBytes f spell Fits
    → (n : ℕ) (bytes : List ℕ) (left : ℕ) → IsBytes bytes → times f n bytes ≡ Err left → left ≤ length bytes
unfolding times
times_fail f spell Fits laws zero bytes left known e = absurd cc
times_fail f spell Fits laws (suc n) bytes left known e =
    elim (bind_err (f bytes) (λ first. times f n first.1 >>= λ others. Ok (first.0 ∷ others.0, others.1)) left e) [
      | inl h ↦ laws.fails bytes left known h
      | inr a ↦
          let first = (laws.takes bytes a.0.0 a.0.1 known a.1).0 in
          let short = rest_fits bytes (spell a.0.0) a.0.1 first.parts in
          elim (bind_err (times f n a.0.1) (λ others. Ok (a.0.0 ∷ others.0, others.1)) left a.2) [
            | inl h ↦ let le = times_fail f spell Fits laws n a.0.1 left first.known h in omega arith
            | inr b ↦ absurd (let k = b.2 in cc)
          ]
    ]

pub lawful_times : {A : Type 0} {f : List ℕ → Result (A × List ℕ) ℕ} {spell : A → List ℕ} {Fits : A → Type 0} → LawfulBytes f spell Fits → (n : ℕ)
    → LawfulBytes (times f n) (λ xs. flat_map spell xs) (λ xs. (length xs ≡ n) × All Fits xs)
lawful_times {A} {f} {spell} {Fits} laws n = record {
  takes = times_take f spell Fits laws n;
  again = λ xs rest h _. ap (λ (m : ℕ). times f m (flat_map spell xs ++ rest)) (sym h.0) ∙ times_again f spell Fits laws xs rest h.1;
  begins = λ xs rest _. tt;
  fails = times_fail f spell Fits laws n;
}

-- ---- a number, and so many values

pub lawful_counted : {A : Type 0} (ok : ℕ → Bool) → ((n : ℕ) → ok n ≡ true → n < 2 ^ 16) → {g : ℕ → List ℕ → Result (List A × List ℕ) ℕ} {spell : List A → List ℕ} {Are Fit : List A → Type 0}
    → ((n : ℕ) → LawfulBytes (g n) spell (λ xs. (length xs ≡ n) × Are xs))
    → ((xs : List A) → IsTrue (ok (length xs)) → Are xs → Fit xs) → ((xs : List A) → Fit xs → IsTrue (ok (length xs)) × Are xs)
    → LawfulBytes (made (λ x. x.1) (checked ok (number_at w16) ▷▷ g)) (λ xs. to_be_bytes w16 (length xs) ++ spell xs) Fit
lawful_counted {A} ok small {g} {spell} {Are} {Fit} laws to from =
    let both : LawfulBytes (checked ok (number_at w16) ▷▷ g) (λ x. to_be_bytes w16 x.0 ++ spell x.1) (λ x. IsTrue (ok x.0) × ((length x.1 ≡ x.0) × Are x.1)) = lawful_given IsBytes Anything (lawful_checked ok wide16 small) laws in
    lawful_made both (λ x. x.1) (λ xs. (length xs, xs)) Fit
    (λ x fits. let same : (length x.1, x.1) ≡ x = ap (λ (n : ℕ). (n, x.1)) fits.1.0 in (same, to x.1 (subst (λ (n : ℕ). IsTrue (ok n)) (sym fits.1.0) fits.0) fits.1.1))
    (λ xs fits. let h = from xs fits in ((h.0, (refl, h.1)), refl))

pub picked : {R : Type 0} (b : Bool) (x y s : R) → cond b x y ≡ s → ((b ≡ true) × (x ≡ s)) ⊎ ((b ≡ false) × (y ≡ s))
picked true x y s e = inl (refl, e)
picked false x y s e = inr (refl, e)
