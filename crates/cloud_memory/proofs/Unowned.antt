-- The first of some fingerprints that a user doesn't own.
use Rattle.std.proofs.Common.{◌≡◌, ℕ, zero, suc, ◌+◌, ◌<◌, ◌≤◌, Bool, true, false, cond, List, [], ◌∷◌, length, take, Option, Some, None, refl, sym, ap, ◌∙◌, subst, arith}
use Rattle.std.specs.Prelude.{◌↔◌, not, All, is_some, is_none, IsSome, IsTrue, slice_get}
use Rattle.std.specs.List.{Contains}
use Rattle.std.specs.FinMap.{FinMap, get}
use Rattle.std.proofs.lemmas.List.Elements.{All-nil, All-head, All-tail, All-push, All-weaker}
use Rattle.spent_table.specs.CdBase.ids.Fp.{Fp}
use Rattle.spent_table.specs.CdBase.ids.UserId.{UserId}
use Rattle.spent_table.specs.CdBase.shape.Shape.{Shape}
use Rattle.share_index.specs.Order.{owner_cmp, owner_of}
use Rattle.cloud_areas.specs.UserDedup.Owning.{is_among, lacking_from, first_lacking}
use Rattle.cloud_areas.proofs.UserDedup.Owned.{among_contains, contains_among}
use Rattle.cloud_areas.specs.UserDedup.command.Command.{Command}
use Rattle.cloud_areas.specs.UserDedup.Cloud.{user_view}
use Rattle.cloud_memory.specs.Memory.{Memory, Remembers, uses_of}
use Rattle.cloud_memory.specs.Sharing.{AreOwned, IsFirstUnowned, FindsUnowned}
use Rattle.cloud_memory.proofs.Walking.{take_next, take_whole}

-- ---- item by item

pub none_owned : (owners : FinMap owner_cmp ℕ) (user : UserId) → AreOwned owners user []
none_owned owners user = All-nil (λ (fp : Fp). IsSome (get owners (owner_of user.0 fp.0)))

pub owned_more : (owners : FinMap owner_cmp ℕ) (user : UserId) (names : List Fp) (place : ℕ) (fp : Fp) → slice_get names place ≡ Some fp
    → IsSome (get owners (owner_of user.0 fp.0)) → AreOwned owners user (take place names) → AreOwned owners user (take (place + 1) names)
owned_more owners user names place fp at some owned =
    let next : suc place ≡ place + 1 = omega arith in
    subst (λ (k : ℕ). AreOwned owners user (take k names)) next
    (subst (AreOwned owners user) (sym (take_next names place fp at)) (All-push (λ (fp : Fp). IsSome (get owners (owner_of user.0 fp.0))) (take place names) fp owned some))

pub owned_all : (owners : FinMap owner_cmp ℕ) (user : UserId) (names : List Fp) (place : ℕ) → length names ≤ place → AreOwned owners user (take place names) → AreOwned owners user names
owned_all owners user names place past owned = subst (AreOwned owners user) (take_whole names place past) owned

pub lacks_it : (owns : Bool) (o : Option ℕ) → (IsTrue owns ↔ IsSome o) → owns ≡ false → o ≡ None
lacks_it owns None iff off = refl
lacks_it owns (Some n) iff off = absurd (let no : false ≡ true = sym off ∙ iff.1 refl in cc)

-- ---- by the list

module _ (shape : Shape) (list : List Command) (m : Memory) (user : UserId) (r : Remembers shape list m) where
  abbrev own : List Fp
  own = (user_view shape list user).own

  owned_is : (fp : Fp) → is_some (get m.owners (owner_of user.0 fp.0)) ≡ is_among own fp
  owned_is fp = ap is_some (r.owners user fp) ∙ by_test (is_among own fp)
    where
      by_test : (b : Bool) → is_some (cond b (Some (uses_of shape (user_view shape list user).files fp)) None) ≡ b
      by_test true = refl
      by_test false = refl

  none_lacking : (i : ℕ) (names : List Fp) → AreOwned m.owners user names → lacking_from own i names ≡ None
  none_lacking i [] owned = refl
  none_lacking i (fp ∷ names) owned =
      ap (λ (b : Bool). cond b (lacking_from own (suc i) names) (Some i)) (sym (owned_is fp) ∙ All-head (λ (fp : Fp). IsSome (get m.owners (owner_of user.0 fp.0))) fp names owned)
      ∙ none_lacking (suc i) names (All-tail (λ (fp : Fp). IsSome (get m.owners (owner_of user.0 fp.0))) fp names owned)

  first_at : (i : ℕ) (names : List Fp) (place : ℕ) (fp : Fp) → slice_get names place ≡ Some fp → get m.owners (owner_of user.0 fp.0) ≡ None
      → AreOwned m.owners user (take place names) → lacking_from own i names ≡ Some (i + place)
  first_at i [] place fp at lacks owned = absurd (let no : None ≡ Some fp = at in cc)
  first_at i (name ∷ names) zero fp at lacks owned =
      let same : Some name ≡ Some fp = at in
      let here : name ≡ fp = cc in
      let next : i ≡ i + 0 = omega arith in
      ap (λ (b : Bool). cond b (lacking_from own (suc i) names) (Some i)) (ap (is_among own) here ∙ sym (owned_is fp) ∙ ap is_some lacks) ∙ ap Some next
  first_at i (name ∷ names) (suc place) fp at lacks owned =
      let next : suc i + place ≡ i + suc place = omega arith in
      ap (λ (b : Bool). cond b (lacking_from own (suc i) names) (Some i)) (sym (owned_is name) ∙ All-head (λ (fp : Fp). IsSome (get m.owners (owner_of user.0 fp.0))) name (take place names) owned)
      ∙ first_at (suc i) names place fp at lacks (All-tail (λ (fp : Fp). IsSome (get m.owners (owner_of user.0 fp.0))) name (take place names) owned) ∙ ap Some next

  pub lacking_is : (names : List Fp) (found : Option ℕ) → FindsUnowned m.owners user names found → found ≡ first_lacking own names
  lacking_is names None owned = sym (none_lacking 0 names owned)
  lacking_is names (Some place) first =
      let same : 0 + place ≡ place = omega arith in
      sym (first_at 0 names place first.fp first.here first.lacks first.before ∙ ap Some same)

  pub all_owned : (names : List Fp) → AreOwned m.owners user names ↔ All (Contains own) names
  all_owned names = (
    All-weaker (λ (fp : Fp). IsSome (get m.owners (owner_of user.0 fp.0))) (Contains own) (λ fp some. among_contains own fp (sym (owned_is fp) ∙ some)) names,
    All-weaker (Contains own) (λ (fp : Fp). IsSome (get m.owners (owner_of user.0 fp.0))) (λ fp c. owned_is fp ∙ contains_among own fp c) names,
  )

-- ---- a test

within_take : (names : List Fp) (place : ℕ) (fp : Fp) → slice_get names place ≡ Some fp → place < length names
within_take [] place fp at = absurd (let no : None ≡ Some fp = at in cc)
within_take (name ∷ names) zero fp at = omega arith
within_take (name ∷ names) (suc place) fp at = let rest = within_take names place fp at in omega (arith, rest)

pub found_within : (owners : FinMap owner_cmp ℕ) (user : UserId) (names : List Fp) (place : ℕ) → IsFirstUnowned owners user names place → place < length names
found_within owners user names place first = within_take names place first.fp first.here

at_owned : (owners : FinMap owner_cmp ℕ) (user : UserId) (names : List Fp) (place : ℕ) (fp : Fp) → slice_get names place ≡ Some fp → AreOwned owners user names
    → IsSome (get owners (owner_of user.0 fp.0))
at_owned owners user [] place fp at owned = absurd (let no : None ≡ Some fp = at in cc)
at_owned owners user (name ∷ names) zero fp at owned =
    let same : Some name ≡ Some fp = at in
    let here : name ≡ fp = cc in
    subst (λ (f : Fp). IsSome (get owners (owner_of user.0 f.0))) here (All-head (λ (fp : Fp). IsSome (get owners (owner_of user.0 fp.0))) name names owned)
at_owned owners user (name ∷ names) (suc place) fp at owned =
    at_owned owners user names place fp at (All-tail (λ (fp : Fp). IsSome (get owners (owner_of user.0 fp.0))) name names owned)

pub none_is : (result : Bool) (o : Option ℕ) → not result ≡ is_some o → result ≡ is_none o
none_is true None e = refl
none_is true (Some place) e = sym e
none_is false None e = sym e
none_is false (Some place) e = refl

pub owns_is : (owners : FinMap owner_cmp ℕ) (user : UserId) (names : List Fp) (found : Option ℕ) → FindsUnowned owners user names found
    → IsTrue (is_none found) ↔ AreOwned owners user names
owns_is owners user names None owned = (λ t. owned, λ o. refl)
owns_is owners user names (Some place) first = (
  λ t. absurd (let no : false ≡ true = t in cc),
  λ owned.
      absurd (let some = at_owned owners user names place first.fp first.here owned in
      let no : false ≡ true = sym (ap is_some first.lacks) ∙ some in cc),
)
