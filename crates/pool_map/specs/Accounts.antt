-- What each user may have, and how much of it a map of the users' keys is.
use Rattle.std.specs.Prelude.{ℕ, ◌*◌, ◌<◌, ◌==◌, nat_lt, List, [], ◌∷◌, replicate, count_by, if◌then◌else◌}
use Rattle.std.specs.declared.cmp.Ordering.{Ordering}
use Rattle.std.specs.FinMap.{FinMap, len, entries}
use Rattle.pool_map.specs.declared.accounts.Accounts.{Accounts}
use Rattle.pool_map.specs.declared.accounts.Accounts.TheVariants.{Shared, PerUser}

-- the number of a user's account
abbrev pub account_for : Accounts → ℕ → ℕ
account_for (Shared limit) user = 0
account_for (PerUser users limit) user = user

-- the user has an account
abbrev pub IsKnown : Accounts → ℕ → Type 0
IsKnown (Shared limit) user = Unit {0}
IsKnown (PerUser users limit) user = user < users

-- the limit of each account
abbrev pub limits_of : Accounts → List ℕ
limits_of (Shared limit) = limit ∷ []
limits_of (PerUser users limit) = replicate users limit

-- the limits together
abbrev pub slots_of : Accounts → ℕ
slots_of (Shared limit) = limit
slots_of (PerUser users limit) = users * limit

-- how much a user may have: all users together the one limit, or each user its own
abbrev pub limit_for : Accounts → ℕ → ℕ
limit_for (Shared limit) user = limit
limit_for (PerUser users limit) user = (if nat_lt user users then limit else 0)

module _ {K X : Type 0} {R : K → K → Ordering} (user_of : K → ℕ) where
  -- how many keys of a map are a user's
  abbrev pub keys_of : FinMap R X → ℕ → ℕ
  keys_of m user = count_by (λ e. user_of e.0 == user) (entries m)

  -- how much counts against a user's limit
  abbrev pub use_for : Accounts → FinMap R X → ℕ → ℕ
  use_for (Shared limit) m user = len m
  use_for (PerUser users limit) m user = keys_of m user
