-- A word that is read is the word that was written, and what was written is read again.
use Rattle.std.proofs.Common.{◌≡◌, ℕ, zero, suc, ◌-◌, ◌<◌, ◌≤◌, Bool, true, false, cond, List, [], ◌∷◌, ◌++◌, length, get_or, Option, Some, None, Result, Ok, Err, refl, sym, ap, subst, ◌∙◌, append_assoc, arith, inl, inr}
use Rattle.std.specs.List.{position_or_len}
use Rattle.std.proofs.lemmas.Bool.{eqb-true, cases_Bool}
use Rattle.std.proofs.lemmas.Option.{cond_some, same_Some}
use Rattle.std.proofs.lemmas.List.{take_at, drop_at, take-append-drop, length-append, get_or_append_left}
use Rattle.std.proofs.lemmas.List.Sums.{position_or_len_is}
use Rattle.std.proofs.Math.Seq.{get_or-append_right}
use Rattle.grammar.specs.Words.{is_blank, cut, spelled, word_at, field_at, keep, onto}
use Rattle.grammar.proofs.Laws.{Lawful, Takes, ok_is, err_is}

-- no blank in a text
abbrev pub Plain : List ℕ → Type 0
Plain [] = Unit {0}
Plain (b ∷ bs) = (is_blank b ≡ false) × Plain bs

-- what may follow a word
abbrev pub Ends : List ℕ → Type 0
Ends [] = Unit {0}
Ends (b ∷ bs) = b ≡ 32

-- nothing is known of the bytes of a text
abbrev pub Any : List ℕ → Type 0
Any bytes = Unit {0}

-- a kind of words: what it reads is spelled so, what is spelled so is read, and no blank is in it
pub record Reads {A : Type 0} (read : List ℕ → Option A) (spell : A → List ℕ) (Fits : A → Type 0) : Type 0 where
  pub takes : (text : List ℕ) (x : A) → read text ≡ Some x → (text ≡ spell x) × Fits x
  pub again : (x : A) → Fits x → read (spell x) ≡ Some x
  pub plain : (x : A) → Fits x → Plain (spell x)

-- a reader of fields of a text
abbrev pub LawfulText : {A : Type 0} → (List ℕ → Result (A × List ℕ) ℕ) → (A → List ℕ) → (A → Type 0) → Type 0
LawfulText f spell Fits = Lawful Any Ends f spell Fits

plain_at : (text : List ℕ) (k : ℕ) → Plain text → k < length text → is_blank (get_or text k 0) ≡ false
plain_at [] k p lt = absurd (omega arith)
plain_at (b ∷ bs) zero p lt = p.0
plain_at (b ∷ bs) (suc k) p lt = plain_at bs k p.1 (omega arith)

ends_at : (rest : List ℕ) → Ends rest → 0 < length rest → is_blank (get_or rest 0 0) ≡ true
ends_at [] e lt = absurd (omega arith)
ends_at (b ∷ bs) e lt = ap is_blank e

word_ends : (text rest : List ℕ) → Plain text → Ends rest → position_or_len is_blank (text ++ rest) ≡ length text
word_ends text rest plain ends =
    let len = length-append text rest in
    position_or_len_is is_blank (text ++ rest) (length text) 0 (omega (arith, len))
    (λ k lt. rw (get_or_append_left text rest 0 k lt) (plain_at text k plain lt))
    (λ lt. let k : length text ≤ length text = omega arith in
    let z : 0 ≡ length text - length text = omega arith in
    ap is_blank (get_or-append_right text rest (length text) 0 k) ∙ (ap (λ (i : ℕ). is_blank (get_or rest i 0)) (sym z) ∙ ends_at rest ends (omega (arith, len))))

pub cut_again : (text rest : List ℕ) → Plain text → Ends rest → cut (text ++ rest) ≡ (text, rest)
unfolding cut
cut_again text rest plain ends =
    let e = word_ends text rest plain ends in
    rw (e, take_at text rest (length text) refl, drop_at text rest (length text) refl) refl

pub cut_takes : (bytes : List ℕ) → bytes ≡ (cut bytes).0 ++ (cut bytes).1
unfolding cut
cut_takes bytes = sym (take-append-drop (position_or_len is_blank bytes) bytes)

spelled_ok : {A : Type 0} (o : Option A) (rest : List ℕ) (left : ℕ) (y : A × List ℕ) → spelled o rest left ≡ Ok y → (x : A) × (o ≡ Some x) × ((x, rest) ≡ y)
spelled_ok (Some x) rest left y e = (x, refl, ok_is (x, rest) y e)
spelled_ok None rest left y e = absurd cc

-- a fault lies in the text
pub spelled_err : {A : Type 0} (o : Option A) (rest : List ℕ) (left e : ℕ) → spelled o rest left ≡ Err e → e ≡ left
spelled_err (Some x) rest left e h = absurd cc
spelled_err None rest left e h = cc

pub word_fails : {A : Type 0} (read : List ℕ → Option A) (bytes : List ℕ) (left : ℕ) → word_at read bytes ≡ Err left → left ≤ length bytes
unfolding word_at
word_fails read bytes left e = let same = spelled_err (read (cut bytes).0) (cut bytes).1 (length bytes) left e in omega arith

pub field_fails : {A : Type 0} (read : List ℕ → Option A) (bytes : List ℕ) (left : ℕ) → field_at read bytes ≡ Err left → left ≤ length bytes
unfolding field_at
field_fails {A} read [] left e = let z : left ≡ 0 = err_is {A = A × List ℕ} left 0 e in omega arith
field_fails {A} read (b ∷ bytes) left e =
    elim (cases_Bool (is_blank b)) [
      | inl t ↦ let h = word_fails read bytes left (rw t at e) in omega arith
      | inr f ↦ let h : left ≡ suc (length bytes) = err_is {A = A × List ℕ} left (suc (length bytes)) (rw f at e) in omega arith
    ]

-- a word that was taken
pub word_took : {A : Type 0} (read : List ℕ → Option A) (bytes : List ℕ) (x : A) (rest : List ℕ) → word_at read bytes ≡ Ok (x, rest) → (text : List ℕ) × (read text ≡ Some x) × (bytes ≡ text ++ rest)
unfolding word_at
word_took {A} read bytes x rest e =
    let s = spelled_ok (read (cut bytes).0) (cut bytes).1 (length bytes) (x, rest) e in
    let value : read (cut bytes).0 ≡ Some x = s.1 ∙ ap (λ (p : A × List ℕ). Some p.0) s.2 in
    let behind : (cut bytes).1 ≡ rest = ap (λ (p : A × List ℕ). p.1) s.2 in
    ((cut bytes).0, value, cut_takes bytes ∙ ap (λ (r : List ℕ). (cut bytes).0 ++ r) behind)

pub word_takes : {A : Type 0} (read : List ℕ → Option A) (spell : A → List ℕ) (Fits : A → Type 0) → Reads read spell Fits → (bytes : List ℕ) (x : A) (rest : List ℕ) → word_at read bytes ≡ Ok (x, rest) → (bytes ≡ spell x ++ rest) × Fits x
word_takes {A} read spell Fits laws bytes x rest e =
    let t = word_took read bytes x rest e in
    let u = laws.takes t.0 x t.1 in
    (t.2 ∙ ap (λ (w : List ℕ). w ++ rest) u.0, u.1)

-- a word is read again from a spelling of it
pub word_reread : {A : Type 0} (read : List ℕ → Option A) (text rest : List ℕ) (x : A) → read text ≡ Some x → Plain text → Ends rest → word_at read (text ++ rest) ≡ Ok (x, rest)
unfolding word_at
word_reread read text rest x value plain ends = rw (cut_again text rest plain ends, value) refl

pub word_again : {A : Type 0} (read : List ℕ → Option A) (spell : A → List ℕ) (Fits : A → Type 0) → Reads read spell Fits → (x : A) (rest : List ℕ) → Fits x → Ends rest → word_at read (spell x ++ rest) ≡ Ok (x, rest)
word_again read spell Fits laws x rest fits ends = word_reread read (spell x) rest x (laws.again x fits) (laws.plain x fits) ends

behind_blank : {A : Type 0} (b : ℕ) (d : ℕ) (r : Result A ℕ) (y : A) → cond (is_blank b) r (Err d) ≡ Ok y → (b ≡ 32) × (r ≡ Ok y)
behind_blank b d r y e =
    elim (cases_Bool (is_blank b)) [
      | inl t ↦ (eqb-true b 32 t, rw t at e)
      | inr f ↦ absurd (let k = rw f at e in cc)
    ]

-- a field that was taken
pub field_took : {A : Type 0} (read : List ℕ → Option A) (bytes : List ℕ) (x : A) (rest : List ℕ) → field_at read bytes ≡ Ok (x, rest) → (text : List ℕ) × (read text ≡ Some x) × (bytes ≡ (32 ∷ text) ++ rest)
unfolding field_at
field_took read [] x rest e = absurd cc
field_took read (b ∷ bytes) x rest e =
    let s = behind_blank b (length (b ∷ bytes)) (word_at read bytes) (x, rest) e in
    let t = word_took read bytes x rest s.1 in
    (t.0, t.1, cc (s.0, t.2))

field_takes : {A : Type 0} (read : List ℕ → Option A) (spell : A → List ℕ) (Fits : A → Type 0) → Reads read spell Fits → (bytes : List ℕ) (x : A) (rest : List ℕ) → Any bytes → field_at read bytes ≡ Ok (x, rest) → Takes Any bytes (32 ∷ spell x) rest × Fits x
field_takes read spell Fits laws bytes x rest any e =
    let t = field_took read bytes x rest e in
    let u = laws.takes t.0 x t.1 in
    (record { parts = t.2 ∙ ap (λ (w : List ℕ). (32 ∷ w) ++ rest) u.0; known = tt }, u.1)

-- a field is read again from a spelling of it
pub field_reread : {A : Type 0} (read : List ℕ → Option A) (text rest : List ℕ) (x : A) → read text ≡ Some x → Plain text → Ends rest → field_at read ((32 ∷ text) ++ rest) ≡ Ok (x, rest)
unfolding field_at
field_reread read text rest x value plain ends = word_reread read text rest x value plain ends

pub lawful_field : {A : Type 0} {read : List ℕ → Option A} {spell : A → List ℕ} {Fits : A → Type 0} → Reads read spell Fits → LawfulText (field_at read) (λ x. 32 ∷ spell x) Fits
lawful_field {A} {read} {spell} {Fits} laws = record {
  takes = field_takes read spell Fits laws;
  again = λ x rest fits ends. field_reread read (spell x) rest x (laws.again x fits) (laws.plain x fits) ends;
  begins = λ x rest ends. refl;
  fails = λ bytes left any e. field_fails read bytes left e;
}

-- ---- values that pass a test, and values in front of others

pub keep_some : {A : Type 0} (p : A → Bool) (o : Option A) (x : A) → keep p o ≡ Some x → (o ≡ Some x) × (p x ≡ true)
keep_some p None x e = absurd cc
keep_some p (Some y) x e = let c = cond_some (p y) y x e in (ap Some c.1, subst (λ z. p z ≡ true) c.1 c.0)

pub keep_again : {A : Type 0} (p : A → Bool) (o : Option A) (x : A) → o ≡ Some x → p x ≡ true → keep p o ≡ Some x
keep_again p o x e h = rw (e, h) refl

pub onto_some : {A : Type 0} (o : Option A) (r : Option (List A)) (ys : List A) → onto o r ≡ Some ys → (x : A) × (xs : List A) × (o ≡ Some x) × (r ≡ Some xs) × (ys ≡ x ∷ xs)
onto_some None r ys e = absurd cc
onto_some (Some x) None ys e = absurd cc
onto_some (Some x) (Some xs) ys e = (x, xs, refl, refl, sym (same_Some (x ∷ xs) ys e))

-- the values so far and those of the rest
abbrev pub prepend : {A : Type 0} → List A → Option (List A) → Option (List A)
prepend xs None = None
prepend xs (Some ys) = Some (xs ++ ys)

pub prepend_onto : {A : Type 0} (xs : List A) (x : A) (o : Option (List A)) → prepend (xs ++ x ∷ []) o ≡ prepend xs (onto (Some x) o)
prepend_onto xs x None = refl
prepend_onto xs x (Some ys) = ap Some (append_assoc xs (x ∷ []) ys)

pub prepend_prepend : {A : Type 0} (xs ys : List A) (o : Option (List A)) → prepend (xs ++ ys) o ≡ prepend xs (prepend ys o)
prepend_prepend xs ys None = refl
prepend_prepend xs ys (Some zs) = ap Some (append_assoc xs ys zs)

pub prepend_none : {A : Type 0} (o : Option (List A)) → prepend [] o ≡ o
prepend_none None = refl
prepend_none (Some ys) = refl
