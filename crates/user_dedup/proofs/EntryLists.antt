-- The entries of files by their keys.
use Rattle.std.proofs.Common.{◌≡◌, ℕ, zero, suc, Bool, true, false, cond, List, [], ◌∷◌, ◌++◌, length, Some, None, refl, sym, ap, ◌∙◌, subst, arith, inl, inr, ◌⊎◌, eq-eqb}
use Rattle.std.specs.Prelude.{slice_get, bytes_eq, ◌&&◌, ◌==◌}
use Rattle.std.specs.List.{Contains}
use Rattle.std.specs.Cmp.Lexicographic.{nat_list_eq_equiv}
use Rattle.std.proofs.lemmas.Bool.{eqb-true, and_parts}
use Rattle.std.proofs.lemmas.Slice.Eq.{bytes_eq-Decides}
use Rattle.journal_start.specs.CdBase.ids.Tag.{Tag}
use Rattle.journal_start.specs.CdBase.ids.Version.{Version}
use Rattle.user_dedup.specs.declared.file_list.FileEntry.{FileEntry}
use Rattle.user_dedup.specs.Pages.{key_of, is_at, entry_at, AreApart}
use Rattle.user_dedup.proofs.Views.{found_passes}

pub at_its_key : (entry : FileEntry) (key : Tag × Version) → key_of entry ≡ key → is_at key entry ≡ true
at_its_key entry key e = subst (λ k. is_at k entry ≡ true) e (both (bytes_eq entry.tag.0 entry.tag.0) (entry.version.0 == entry.version.0) (nat_list_eq_equiv.refl entry.tag.0) (eq-eqb entry.version.0 entry.version.0 refl))
  where
    both : (a b : Bool) → a ≡ true → b ≡ true → (a && b) ≡ true
    both true b p q = q
    both false b p q = cc

pub its_key : (entry : FileEntry) (key : Tag × Version) → is_at key entry ≡ true → key_of entry ≡ key
its_key entry key e =
    let p = and_parts (bytes_eq entry.tag.0 key.0.0) _ e in
    let tag : entry.tag.0 ≡ key.0.0 = (bytes_eq-Decides entry.tag.0 key.0.0).0 p.0 in
    let version : entry.version.0 ≡ key.1.0 = eqb-true _ _ p.1 in
    λ i. (record { 0 = tag i }, record { 0 = version i })

-- what is found has the key
pub found_entry : (files : List FileEntry) (key : Tag × Version) (entry : FileEntry) → entry_at files key ≡ Some entry → (key_of entry ≡ key) × Contains files entry
found_entry files key entry e = let f = found_passes (is_at key) files entry e in (its_key entry key f.0, f.1)

-- where none is found no entry has the key
pub no_entry : (files : List FileEntry) (key : Tag × Version) → entry_at files key ≡ None → (i : ℕ) (entry : FileEntry) → slice_get files i ≡ Some entry → key_of entry ≡ key → ⊥
no_entry [] key none i entry at same = let no : None ≡ Some entry = at in cc
no_entry (x ∷ files) key none i entry at same = by_test (is_at key x) refl (no_entry files key) none i at
  where
    by_test : (b : Bool) → is_at key x ≡ b
        → (entry_at files key ≡ None → (i : ℕ) (entry : FileEntry) → slice_get files i ≡ Some entry → key_of entry ≡ key → ⊥)
        → cond b (Some x) (entry_at files key) ≡ None → (i : ℕ) → slice_get (x ∷ files) i ≡ Some entry → ⊥
    by_test true h rest none i at = let no : Some x ≡ None = none in cc
    by_test false h rest none zero at =
        let x_is : Some x ≡ Some entry = at in
        let x_same : x ≡ entry = cc in
        let yes : is_at key x ≡ true = at_its_key x key (ap key_of x_same ∙ same) in
        cc
    by_test false h rest none (suc i) at = rest none i entry at same

get_push : {A : Type 0} (xs : List A) (y : A) (i : ℕ) (a : A) → slice_get (xs ++ y ∷ []) i ≡ Some a → (slice_get xs i ≡ Some a) ⊎ ((i ≡ length xs) × (y ≡ a))
get_push [] y zero a e = inr (refl, let f : Some y ≡ Some a = e in cc)
get_push [] y (suc i) a e = absurd (let no : None ≡ Some a = e in cc)
get_push (x ∷ xs) y zero a e = inl e
get_push (x ∷ xs) y (suc i) a e =
    elim (get_push xs y i a e) [
      | inl f ↦ inl f
      | inr f ↦ inr (let h = f.0 in omega arith, f.1)
    ]

pub apart_push : (files : List FileEntry) (entry : FileEntry) → AreApart files → entry_at files (key_of entry) ≡ None → AreApart (files ++ entry ∷ [])
apart_push files entry apart none i j a b at_i at_j same =
    elim (get_push files entry i a at_i) [
      | inl old_i ↦ elim (get_push files entry j b at_j) [
        | inl old_j ↦ apart i j a b old_i old_j same
        | inr new_j ↦ absurd (no_entry files (key_of entry) none i a old_i (same ∙ ap key_of (sym new_j.1)))
      ]
      | inr new_i ↦ elim (get_push files entry j b at_j) [
        | inl old_j ↦ absurd (no_entry files (key_of entry) none j b old_j (sym same ∙ ap key_of (sym new_i.1)))
        | inr new_j ↦ new_i.0 ∙ sym new_j.0
      ]
    ]
