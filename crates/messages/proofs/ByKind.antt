-- Readers of all the bytes, by kind: what is read is spelled so, and what is spelled so is read.
use Rattle.std.proofs.Common.{◌≡◌, ℕ, suc, ◌≤◌, true, cond, eqb, List, [], ◌∷◌, ◌++◌, length, Option, Some, None, Result, Ok, Err, refl, sym, ap, subst, ◌∙◌, arith, inl, inr, eqb-true}
use Rattle.std.specs.Prelude.{IfSome}
use Rattle.message_fields.specs.CdBase.ids.Tag.{Tag}
use Rattle.message_fields.specs.CdBase.ids.Version.{Version}
use Rattle.message_fields.specs.Grammar.Readers.{◌>>=◌, done_at}
use Rattle.message_fields.proofs.Grammar.Laws.{Takes, Whole, bind_ok, bind_err, ok_is, err_is, rest_fits}
use Rattle.message_fields.proofs.Grammar.FieldLaws.{IsBytes, LawfulBytes}
use Rattle.message_fields.specs.Parts.{made}
use Rattle.message_fields.specs.Keys.{IsKey, key_at}
use Rattle.message_fields.proofs.PartLaws.{bytes_tail, picked}
use Rattle.message_fields.proofs.KeyLaws.{lawful_key}
use Rattle.messages.specs.Parts.{after_bytes, after_at, some_left, with_rest, placed}

-- ---- a key or none

abbrev IsAfter : Option (Tag × Version) → Type 0
IsAfter o = IfSome o IsKey

abbrev TookAfter : ℕ → List ℕ → Option (Tag × Version) → List ℕ → Type 0
TookAfter flag bytes o rest = Takes IsBytes (flag ∷ bytes) (after_bytes o) rest × IsAfter o

after_some : (bytes : List ℕ) (o : Option (Tag × Version)) (rest : List ℕ) → IsBytes bytes → made Some key_at bytes ≡ Ok (o, rest) → TookAfter 1 bytes o rest
after_some bytes o rest known e =
    let a = bind_ok (key_at bytes) (λ x. Ok (Some x.0, x.1)) (o, rest) e in
    let t = lawful_key.takes bytes a.0.0 a.0.1 known a.1 in
    let made : Option (Tag × Version) × List ℕ = (Some a.0.0, a.0.1) in
    subst (λ (p : Option (Tag × Version) × List ℕ). TookAfter 1 bytes p.0 p.1) (ok_is made (o, rest) a.2) (record { parts = ap (λ (x : List ℕ). 1 ∷ x) t.0.parts; known = t.0.known }, t.1)

abbrev read_after : Option (Tag × Version) → List ℕ → Result (Option (Tag × Version) × List ℕ) ℕ
read_after o rest = Ok (o, rest)

after_none : (bytes : List ℕ) (o : Option (Tag × Version)) (rest : List ℕ) → IsBytes bytes → read_after None bytes ≡ read_after o rest → TookAfter 0 bytes o rest
after_none bytes o rest known e =
    let made : Option (Tag × Version) × List ℕ = (None, bytes) in
    subst (λ (p : Option (Tag × Version) × List ℕ). TookAfter 0 bytes p.0 p.1) (ok_is made (o, rest) e) (record { parts = refl; known = known }, tt)

after_takes : (bytes : List ℕ) (o : Option (Tag × Version)) (rest : List ℕ) → IsBytes bytes → after_at bytes ≡ Ok (o, rest) → Takes IsBytes bytes (after_bytes o) rest × IsAfter o
unfolding after_at
after_takes [] o rest known e = absurd cc
after_takes (flag ∷ bytes) o rest known e =
    elim (picked (eqb flag 0) (read_after None bytes) (cond (eqb flag 1) (made Some key_at bytes) (Err (suc (length bytes)))) (read_after o rest) e) [
      | inl h ↦ subst (λ (f : ℕ). TookAfter f bytes o rest) (sym (eqb-true flag 0 h.0)) (after_none bytes o rest (bytes_tail flag bytes known) h.1)
      | inr t ↦
          elim (picked (eqb flag 1) (made Some key_at bytes) (Err (suc (length bytes))) (read_after o rest) t.1) [
            | inl h ↦ subst (λ (f : ℕ). TookAfter f bytes o rest) (sym (eqb-true flag 1 h.0)) (after_some bytes o rest (bytes_tail flag bytes known) h.1)
            | inr h ↦ absurd (let k = h.1 in cc)
          ]
    ]

after_again : (o : Option (Tag × Version)) (rest : List ℕ) → IsAfter o → after_at (after_bytes o ++ rest) ≡ Ok (o, rest)
unfolding after_at
after_again None rest fits = refl
after_again (Some key) rest fits = rw (lawful_key.again key rest fits tt) refl

after_fails : (bytes : List ℕ) (left : ℕ) → IsBytes bytes → after_at bytes ≡ Err left → left ≤ length bytes
unfolding after_at
after_fails [] left known e = let z : left ≡ 0 = err_is {A = Option (Tag × Version) × List ℕ} left 0 e in omega arith
after_fails (flag ∷ bytes) left known e =
    elim (picked (eqb flag 0) (read_after None bytes) (cond (eqb flag 1) (made Some key_at bytes) (Err (suc (length bytes)))) (Err left) e) [
      | inl h ↦ absurd (let k = h.1 in cc)
      | inr t ↦
          elim (picked (eqb flag 1) (made Some key_at bytes) (Err (suc (length bytes))) (Err left) t.1) [
            | inl h ↦
                elim (bind_err (key_at bytes) (λ x. Ok (Some x.0, x.1)) left h.1) [
                  | inl k ↦ let le = lawful_key.fails bytes left (bytes_tail flag bytes known) k in omega arith
                  | inr a ↦ absurd (let k = a.2 in cc)
                ]
            | inr h ↦ let same : left ≡ suc (length bytes) = err_is {A = Option (Tag × Version) × List ℕ} left (suc (length bytes)) h.1 in omega arith
          ]
    ]

pub lawful_after : LawfulBytes after_at after_bytes IsAfter
lawful_after = record { takes = after_takes; again = λ o rest fits _. after_again o rest fits; begins = λ o rest _. tt; fails = after_fails }

-- ---- readers of all the bytes

done_ok : {R : Type 0} (x : R) (rest : List ℕ) (s : R) → done_at x rest ≡ Ok s → (rest ≡ []) × (x ≡ s)
done_ok x [] s e = (refl, ok_is x s e)
done_ok x (b ∷ bytes) s e = absurd cc

done_fails : {R : Type 0} (x : R) (rest : List ℕ) (left : ℕ) → done_at x rest ≡ Err left → left ≤ length rest
done_fails x [] left e = absurd cc
done_fails {R} x (b ∷ bytes) left e = let same : left ≡ suc (length bytes) = err_is {A = R} left (suc (length bytes)) e in omega arith

-- no fields
pub whole_done : {R : Type 0} (x : R) → Whole IsBytes {A = Unit {0}} (done_at x) (λ _. x) (λ _. []) (λ _. Unit {0})
whole_done {R} x = record {
  takes = λ bytes s known e. let d = done_ok x bytes s e in (tt, d.0, tt, d.1);
  again = λ y fits. refl;
  fails = λ bytes left known e. done_fails x bytes left e;
}

some_ok : {R : Type 0} (make : List ℕ → R) (rest : List ℕ) (s : R) → some_left make rest ≡ Ok s → (1 ≤ length rest) × (make rest ≡ s)
some_ok make [] s e = absurd cc
some_ok make (b ∷ bytes) s e = (omega arith, ok_is (make (b ∷ bytes)) s e)

some_again : {R : Type 0} (make : List ℕ → R) (rest : List ℕ) → 1 ≤ length rest → some_left make rest ≡ Ok (make rest)
some_again make [] some = absurd (omega arith)
some_again make (b ∷ bytes) some = refl

some_fails : {R : Type 0} (make : List ℕ → R) (rest : List ℕ) (left : ℕ) → some_left make rest ≡ Err left → left ≤ length rest
some_fails {R} make [] left e = let z : left ≡ 0 = err_is {A = R} left 0 e in omega arith
some_fails make (b ∷ bytes) left e = absurd cc

-- all bytes that are left
pub whole_some : {R : Type 0} (make : List ℕ → R) → Whole IsBytes (some_left make) make (λ rest. rest) (λ rest. 1 ≤ length rest)
whole_some make = record {
  takes = λ bytes s known e. let d = some_ok make bytes s e in (bytes, refl, d.0, d.1);
  again = some_again make;
  fails = λ bytes left known e. some_fails make bytes left e;
}

-- a value and then all bytes that are left
pub whole_rest : {A R : Type 0} {f : List ℕ → Result (A × List ℕ) ℕ} {spell : A → List ℕ} {Fits : A → Type 0} → LawfulBytes f spell Fits → (make : A → List ℕ → R)
    → Whole IsBytes {A = A × List ℕ} (with_rest make f) (λ p. make p.0 p.1) (λ p. spell p.0 ++ p.1) (λ p. Fits p.0 × (1 ≤ length p.1))
whole_rest {A} {R} {f} {spell} {Fits} laws make = record {
  takes = λ bytes s known e.
      let a = bind_ok (f bytes) (λ x. some_left (make x.0) x.1) s e in
      let d = some_ok (make a.0.0) a.0.1 s a.2 in
      let t = laws.takes bytes a.0.0 a.0.1 known a.1 in
      ((a.0.0, a.0.1), t.0.parts, (t.1, d.0), d.1);
  again = λ p fits. ap (λ (r : Result (A × List ℕ) ℕ). r >>= λ x. some_left (make x.0) x.1) (laws.again p.0 p.1 fits.0 tt) ∙ some_again (make p.0) p.1 fits.1;
  fails = λ bytes left known e.
      elim (bind_err (f bytes) (λ x. some_left (make x.0) x.1) left e) [
        | inl h ↦ laws.fails bytes left known h
        | inr a ↦
            let fit = rest_fits bytes (spell a.0.0) a.0.1 (laws.takes bytes a.0.0 a.0.1 known a.1).0.parts in
            let le = some_fails (make a.0.0) a.0.1 left a.2 in omega arith
      ];
}

-- ---- one kind

-- bytes that a kind's reader takes are its message
pub kind_takes : {A R : Type 0} {read : List ℕ → Result R ℕ} {make : A → R} {spell : A → List ℕ} {Fits : A → Type 0} → Whole IsBytes read make spell Fits
    → (IsFit : R → Type 0) (bytes_of : R → List ℕ) (number kind : ℕ) → ((x : A) → Fits x → IsFit (make x) × (number ∷ spell x ≡ bytes_of (make x)))
    → (fields : List ℕ) (r : R) → IsBytes fields → eqb kind number ≡ true → read fields ≡ Ok r → IsFit r × (kind ∷ fields ≡ bytes_of r)
kind_takes {A} {R} {read} {make} laws IsFit bytes_of number kind there fields r known is e =
    let t = laws.takes fields r known e in
    let h = there t.0 t.2 in
    let spelled : kind ∷ fields ≡ bytes_of (make t.0) = ap (λ (k : ℕ). k ∷ fields) (eqb-true kind number is) ∙ ap (λ (x : List ℕ). number ∷ x) t.1 ∙ h.1 in
    subst (λ (y : R). IsFit y × (kind ∷ fields ≡ bytes_of y)) t.3 (h.0, spelled)

pub placed_ok : {A : Type 0} (bytes : List ℕ) (r : Result A ℕ) (x : A) → placed bytes r ≡ Ok x → r ≡ Ok x
placed_ok bytes (Ok y) x e = cc
placed_ok bytes (Err left) x e = absurd cc
