-- How a hash table keeps the owners. No public clause cites this module.
use Rattle.std.specs.Prelude.{◌≡◌, ℕ, Bool, false, List, length, Option, Some, None}
use Rattle.std.specs.Ordering.{eq_by_cmp}
use Rattle.std.specs.FinMap.{FinMap, len}
use Rattle.pool_map.specs.SlotPool.Pool.{PoolContents}
use Rattle.pool_map.specs.declared.KeyedValue.{KeyedValue as Pair}
use Rattle.pool_map.specs.Table.{contents}
use Rattle.pool_map.specs.Shown.{shown}
use Rattle.pool_map.specs.declared.accounts.Accounts.{Accounts}
use Rattle.pool_map.specs.Accounts.{limits_of, use_for, keys_of}
use Rattle.pool_map.specs.Charges.{IsCharged}
use Rattle.pool_map.specs.Slots.{shown_slots}
use Rattle.share_index.specs.declared.key.Owner.{Owner}
use Rattle.share_index.specs.Order.{owner_cmp}
use Rattle.cd_base.specs.Order.{fp_cmp}
use Rattle.share_index.specs.Counts.{UserCounts, count_at, total}

pub record Owners : Type 0 where
  pub owners : FinMap owner_cmp ℕ
  pub slots : List (Option (Owner × ℕ))
  pub accounts : Accounts

abbrev pub used_of : Owners → ℕ → ℕ
used_of o user = use_for (λ k. k.user) o.accounts o.owners user

-- whether a slot shows an owner of the fingerprint
abbrev pub shows_fp : List ℕ → Option (Owner × ℕ) → Bool
shows_fp fp None = false
shows_fp fp (Some e) = eq_by_cmp fp_cmp e.0.fp fp

abbrev pub owners_in : PoolContents (Pair Owner ℕ) → Accounts → Owners
owners_in table accounts = record {
  owners = shown (λ (x : ℕ × ℕ). x.1) (contents owner_cmp table);
  slots = shown_slots (λ (uses : ℕ). uses) table.slots;
  accounts = accounts;
}

pub record IsOwning (table : PoolContents (Pair Owner ℕ)) (counts : UserCounts) (accounts : Accounts) : Type 0 where
  pub limits : table.limits ≡ limits_of accounts
  pub charged : IsCharged accounts (λ (k : Owner). k.user) (contents owner_cmp table)
  pub counted : (user : ℕ) → count_at counts.counts user ≡ keys_of (λ k. k.user) (owners_in table accounts).owners user
  pub totalled : total counts.counts ≡ len (owners_in table accounts).owners
  pub room : counts.room ≡ length table.slots
