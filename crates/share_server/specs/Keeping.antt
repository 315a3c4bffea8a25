-- What holds of a server between two calls.
use Rattle.std.specs.Prelude.{◌≡◌, ◌⊎◌, ℕ, ◌≤◌}
use Rattle.std.proofs.Common.{inl, inr, sym, ap, ◌∙◌}
use Rattle.std.proofs.Props.{props}
use Rattle.server_requests.specs.CdBase.Limits.{recipe_limit}
use Rattle.server_requests.specs.CloudStore.store.CloudStore.{CloudStore}
use Rattle.server_requests.specs.CloudStore.Store.{IsOpen, IsSettled}
use Rattle.server_requests.specs.ServerCommands.Executing.{IsStoreReady}

-- The store is settled, and ready for requests where it is open; and the buffer has place for the longest recipe.
pub record IsStoreKept (store : CloudStore) (buffer : ℕ) : Type 0 where
  pub settled : IsSettled store
  pub ready : IsOpen store → IsStoreReady store
  pub room : recipe_limit ≤ buffer

-- ---- it is a fact: it has one proof at most

one_format : (n : ℕ) → IsProp ((n ≡ 1) ⊎ (n ≡ 2))
one_format n = one
  where
    first : IsProp (n ≡ 1)
    first = hlevel props

    second : IsProp (n ≡ 2)
    second = hlevel props

    one : (a b : (n ≡ 1) ⊎ (n ≡ 2)) → a ≡ b
    one (inl x) (inl y) = ap inl (first x y)
    one (inl x) (inr y) = absurd (let f : 1 ≡ 2 = sym x ∙ y in cc)
    one (inr x) (inl y) = absurd (let f : 1 ≡ 2 = sym y ∙ x in cc)
    one (inr x) (inr y) = ap inr (second x y)

pub kept_prop : (store : CloudStore) (buffer : ℕ) → IsProp (IsStoreKept store buffer)
kept_prop store buffer = hlevel (props, one_format)
