-- Of the strings that were sent those that are new.
use Rattle.std.proofs.Common.{◌≡◌, ℕ, zero, suc, Bool, true, false, cond, List, [], ◌∷◌, ◌++◌, map, Some, None, refl, sym, ap, ◌∙◌, subst, inl, inr}
use Rattle.std.specs.Prelude.{slice_get}
use Rattle.std.specs.List.{Contains}
use Rattle.std.proofs.lemmas.Bool.{false_from_ne_true}
use Rattle.std.proofs.lemmas.List.Elements.{Contains-append_left, Contains-push, Contains-push_cases}
use Rattle.journal_start.specs.CdBase.ids.Fp.{Fp}
use Rattle.user_dedup.specs.Cloud.{fingerprint}
use Rattle.user_dedup.specs.Owning.{is_among, new_strings, AreNew}
use Rattle.user_dedup.proofs.Owned.{among_contains, lacks_among, contains_here, contains_later, contains_nothing, contains_cases}

abbrev grown : List Fp → List ℕ → List Fp
grown own s = own ++ fingerprint s ∷ []

new_among : (own : List Fp) (sent : List (List ℕ)) (s : List ℕ) → Contains (new_strings own sent) s → Contains sent s × (Contains own (fingerprint s) → ⊥)
new_among own [] s c = absurd (contains_nothing s c)
new_among own (x ∷ sent) s c = by_test (is_among own (fingerprint x)) refl (new_among own sent s) (new_among (grown own x) sent s) c
  where
    by_test : (b : Bool) → is_among own (fingerprint x) ≡ b
        → (Contains (new_strings own sent) s → Contains sent s × (Contains own (fingerprint s) → ⊥))
        → (Contains (new_strings (grown own x) sent) s → Contains sent s × (Contains (grown own x) (fingerprint s) → ⊥))
        → Contains (cond b (new_strings own sent) (x ∷ new_strings (grown own x) sent)) s → Contains (x ∷ sent) s × (Contains own (fingerprint s) → ⊥)
    by_test true h old new c = let r = old c in (contains_later x sent s r.0, r.1)
    by_test false h old new c =
        elim (contains_cases x (new_strings (grown own x) sent) s c) [
          | inl same ↦ (subst (λ y. Contains (x ∷ sent) y) same (contains_here x sent), subst (λ y. Contains own (fingerprint y) → ⊥) same (lacks_among own (fingerprint x) h))
          | inr later ↦ let r = new later in (contains_later x sent s r.0, λ o. r.1 (Contains-append_left own (fingerprint x ∷ []) (fingerprint s) o))
        ]

-- what stands at a place of the fingerprints
at_contains : (xs : List (List ℕ)) (i : ℕ) (fp : Fp) → slice_get (map fingerprint xs) i ≡ Some fp → (s : List ℕ) × Contains xs s × (fingerprint s ≡ fp)
at_contains [] i fp e = absurd (let no : None ≡ Some fp = e in cc)
at_contains (x ∷ xs) zero fp e = (x, contains_here x xs, let f : Some (fingerprint x) ≡ Some fp = e in cc)
at_contains (x ∷ xs) (suc i) fp e = let r = at_contains xs i fp e in (r.0, contains_later x xs r.0 r.1, r.2)

head_once : (own : List Fp) (x : List ℕ) (sent : List (List ℕ)) (j : ℕ) (fp : Fp) → fingerprint x ≡ fp → slice_get (map fingerprint (new_strings (grown own x) sent)) j ≡ Some fp → ⊥
head_once own x sent j fp same e =
    let r = at_contains (new_strings (grown own x) sent) j fp e in
    (new_among (grown own x) sent r.0 r.1).1 (subst (λ y. Contains (grown own x) y) (same ∙ sym r.2) (Contains-push own (fingerprint x)))

new_apart : (own : List Fp) (sent : List (List ℕ)) (i j : ℕ) (fp : Fp) → slice_get (map fingerprint (new_strings own sent)) i ≡ Some fp
    → slice_get (map fingerprint (new_strings own sent)) j ≡ Some fp → i ≡ j
new_apart own [] i j fp e f = absurd (let no : None ≡ Some fp = e in cc)
new_apart own (x ∷ sent) i j fp e f =
    by_test (is_among own (fingerprint x)) (λ i j. new_apart own sent i j fp) (λ i j. new_apart (grown own x) sent i j fp) i j e f
  where
    by_test : (b : Bool)
        → ((i j : ℕ) → slice_get (map fingerprint (new_strings own sent)) i ≡ Some fp → slice_get (map fingerprint (new_strings own sent)) j ≡ Some fp → i ≡ j)
        → ((i j : ℕ) → slice_get (map fingerprint (new_strings (grown own x) sent)) i ≡ Some fp → slice_get (map fingerprint (new_strings (grown own x) sent)) j ≡ Some fp → i ≡ j)
        → (i j : ℕ) → slice_get (map fingerprint (cond b (new_strings own sent) (x ∷ new_strings (grown own x) sent))) i ≡ Some fp
        → slice_get (map fingerprint (cond b (new_strings own sent) (x ∷ new_strings (grown own x) sent))) j ≡ Some fp → i ≡ j
    by_test true old new i j e f = old i j e f
    by_test false old new zero zero e f = refl
    by_test false old new zero (suc j) e f = absurd (head_once own x sent j fp (let s : Some (fingerprint x) ≡ Some fp = e in cc) f)
    by_test false old new (suc i) zero e f = absurd (head_once own x sent i fp (let s : Some (fingerprint x) ≡ Some fp = f in cc) e)
    by_test false old new (suc i) (suc j) e f = ap suc (new i j e f)

not_grown : (own : List Fp) (x s : List ℕ) → (Contains own (fingerprint s) → ⊥) → (fingerprint x ≡ fingerprint s → ⊥) → Contains (grown own x) (fingerprint s) → ⊥
not_grown own x s lacks other c = elim (Contains-push_cases own (fingerprint x) (fingerprint s) c) [ inl o ↦ lacks o | inr same ↦ other same ]

new_first : (own : List Fp) (before : List (List ℕ)) (s : List ℕ) (after : List (List ℕ)) → (Contains own (fingerprint s) → ⊥)
    → (Contains (map fingerprint before) (fingerprint s) → ⊥) → Contains (new_strings own (before ++ s ∷ after)) s
new_first own [] s after lacks none =
    subst (λ b. Contains (cond b (new_strings own after) (s ∷ new_strings (grown own s) after)) s)
    (sym (false_from_ne_true _ (λ t. lacks (among_contains own (fingerprint s) t))))
    (contains_here s (new_strings (grown own s) after))
new_first own (x ∷ before) s after lacks none =
    by_test (is_among own (fingerprint x)) (new_first own before s after lacks rest)
    (new_first (grown own x) before s after (not_grown own x s lacks (λ same. none (subst (λ y. Contains (map fingerprint (x ∷ before)) y) same (contains_here (fingerprint x) (map fingerprint before))))) rest)
  where
    rest : Contains (map fingerprint before) (fingerprint s) → ⊥
    rest c = none (contains_later (fingerprint x) (map fingerprint before) (fingerprint s) c)

    by_test : (b : Bool) → Contains (new_strings own (before ++ s ∷ after)) s → Contains (new_strings (grown own x) (before ++ s ∷ after)) s
        → Contains (cond b (new_strings own (before ++ s ∷ after)) (x ∷ new_strings (grown own x) (before ++ s ∷ after))) s
    by_test true old new = old
    by_test false old new = contains_later x (new_strings (grown own x) (before ++ s ∷ after)) s new

pub are_new : (own : List Fp) (sent : List (List ℕ)) → AreNew own sent (new_strings own sent)
are_new own sent = record {
  among = new_among own sent;
  apart = new_apart own sent;
  first = λ before s after e lacks none. subst (λ (l : List (List ℕ)). Contains (new_strings own l) s) (sym e) (new_first own before s after lacks none);
}
