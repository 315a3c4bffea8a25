-- Which fingerprints a user owns, and which of some strings are new to the user.
use Rattle.std.specs.Prelude.{◌≡◌, ℕ, suc, Bool, List, [], ◌∷◌, ◌++◌, map, take, slice_get, bytes_eq, Option, Some, None, MatchOption, All, if◌then◌else◌}
use Rattle.std.specs.List.{list_any, Contains}
use Rattle.journal_start.specs.CdBase.ids.Fp.{Fp}
use Rattle.recipe.specs.declared.items.Item.{Item}
use Rattle.user_dedup.specs.Strings.{fingerprint}

-- the fingerprint is one of these
abbrev pub is_among : List Fp → Fp → Bool
is_among own fp = list_any (λ other. bytes_eq other.0 fp.0) own

-- 1 where the fingerprint is owned, and else 0
abbrev pub flag : List Fp → Fp → ℕ
flag own fp = if is_among own fp then 1 else 0

abbrev pub flags : List Fp → List Fp → List ℕ
flags own fps = map (flag own) fps

abbrev pub lacking_from : List Fp → ℕ → List Fp → Option ℕ
lacking_from own i [] = None
lacking_from own i (fp ∷ fps) = if is_among own fp then lacking_from own (suc i) fps else Some i

-- the place of the first of these fingerprints that isn't owned
abbrev pub first_lacking : List Fp → List Fp → Option ℕ
first_lacking own fps = lacking_from own 0 fps

-- At this place stands a fingerprint that isn't owned, and all before it are.
pub record IsFirstLacking (own fps : List Fp) (place : ℕ) : Type 0 where
  pub fp : Fp
  pub here : slice_get fps place ≡ Some fp
  pub lacks : ¬ (Contains own fp)
  pub before : All (Contains own) (take place fps)

-- None exactly where all are owned, and else the place of the first that isn't
abbrev pub FindsLacking : List Fp → List Fp → Option ℕ → Type 0
FindsLacking own fps found = MatchOption found (All (Contains own) fps) (IsFirstLacking own fps)

-- the fingerprints of a recipe's items
abbrev pub fps_in : List Item → List Fp
fps_in items = map (λ (item : Item). item.fp) items

-- of the strings whose fingerprint isn't owned the first of each fingerprint
abbrev pub new_strings : List Fp → List (List ℕ) → List (List ℕ)
new_strings own [] = []
new_strings own (s ∷ ss) = if is_among own (fingerprint s) then new_strings own ss else s ∷ new_strings (own ++ fingerprint s ∷ []) ss

-- These are strings that were sent and whose fingerprint isn't owned, no two with one fingerprint, and the first of each such
-- fingerprint is one of them.
pub record AreNew (own : List Fp) (sent new : List (List ℕ)) : Type 0 where
  pub among : (s : List ℕ) → Contains new s → Contains sent s × (¬ (Contains own (fingerprint s)))
  pub apart : (i j : ℕ) (fp : Fp) → slice_get (map fingerprint new) i ≡ Some fp → slice_get (map fingerprint new) j ≡ Some fp → i ≡ j
  pub first : (before : List (List ℕ)) (s : List ℕ) (after : List (List ℕ)) → sent ≡ before ++ s ∷ after
      → ¬ (Contains own (fingerprint s)) → ¬ (Contains (map fingerprint before) (fingerprint s)) → Contains new s
