-- How a hash table keeps the users' counts. No public clause cites this module.
use Rattle.std.specs.Prelude.{◌≡◌, ℕ, ◌<◌, ◌^◌, List, [], ◌∷◌, Some, slice_index_or}
use Rattle.std.specs.FinMap.{get}
use Rattle.pool_map.specs.SlotPool.Pool.{PoolContents}
use Rattle.pool_map.specs.declared.KeyedValue.{KeyedValue as Pair}
use Rattle.share_index.specs.declared.key.UserNumber.{UserNumber}
use Rattle.pool_map.specs.Table.{contents}
use Rattle.pool_map.specs.Shown.{shown}
use Rattle.pool_map.specs.declared.accounts.Accounts.TheVariants.{Shared}
use Rattle.pool_map.specs.Charges.{IsCharged}
use Rattle.share_index.specs.Counts.{UserCounts, number_cmp, batches_in}

abbrev pub room_of : List ℕ → ℕ
room_of limits = slice_index_or limits 0 0

abbrev pub counts_of : PoolContents (Pair UserNumber ℕ) → UserCounts
counts_of table = record { counts = shown (λ (x : ℕ × ℕ). x.1) (contents number_cmp table); room = room_of table.limits }

pub record IsCounting (table : PoolContents (Pair UserNumber ℕ)) (batches : ℕ) : Type 0 where
  pub limits : table.limits ≡ room_of table.limits ∷ []
  pub small : room_of table.limits < 2 ^ 32
  pub charged : IsCharged (Shared (room_of table.limits)) (λ (k : UserNumber). 0) (contents number_cmp table)
  pub positive : (k : UserNumber) (x : ℕ × ℕ) → get (contents number_cmp table) k ≡ Some x → 0 < x.1
  pub keys : (k : UserNumber) (x : ℕ × ℕ) → get (contents number_cmp table) k ≡ Some x → k.value < 2 ^ 32
  pub counted : batches ≡ batches_in (counts_of table).counts
