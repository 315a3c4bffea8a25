-- How a hash table keeps the placed shares. No public clause cites this module.
use Rattle.std.specs.Prelude.{◌≡◌, ℕ, ◌<◌, ◌≤◌, ◌^◌, ◌==◌, ◌-◌, List, [], ◌∷◌, Option, Some, None, count_by}
use Rattle.std.specs.FinMap.{FinMap, get, insert, len, entries}
use Rattle.pool_map.specs.SlotPool.Pool.{PoolContents}
use Rattle.pool_map.specs.declared.KeyedValue.{KeyedValue as Pair}
use Rattle.pool_map.specs.Table.{contents}
use Rattle.pool_map.specs.Shown.{shown}
use Rattle.pool_map.specs.declared.accounts.Accounts.TheVariants.{Shared}
use Rattle.pool_map.specs.Charges.{IsCharged}
use Rattle.pool_map.specs.Slots.{shown_slots}
use Rattle.share_index.specs.declared.key.Kept.{Kept}
use Rattle.cd_base.specs.Order.{fp_cmp}
use Rattle.share_index.specs.Counting.{room_of}

pub record Places : Type 0 where
  pub kept : FinMap fp_cmp Kept
  pub slots : List (Option (List ℕ × Kept))
  pub room : ℕ

-- how many have no owner
abbrev pub zeros : FinMap fp_cmp Kept → ℕ
zeros m = count_by (λ e. e.1.owners == 0) (entries m)

-- what is kept, with an owner fewer of a fingerprint of which this is kept
abbrev pub fewer_at : FinMap fp_cmp Kept → List ℕ → Option Kept → FinMap fp_cmp Kept
fewer_at kept fp None = kept
fewer_at kept fp (Some old) = insert kept fp (record { place = old.place; owners = old.owners - 1 })

-- what is kept, with an owner fewer of a fingerprint, if it is placed
abbrev pub with_fewer_owners : FinMap fp_cmp Kept → List ℕ → FinMap fp_cmp Kept
with_fewer_owners kept fp = fewer_at kept fp (get kept fp)

abbrev pub places_in : PoolContents (Pair (List ℕ) Kept) → Places
places_in table = record {
  kept = shown (λ (x : ℕ × Kept). x.1) (contents fp_cmp table);
  slots = shown_slots (λ (k : Kept). k) table.slots;
  room = room_of table.limits;
}

pub record IsPlacing (table : PoolContents (Pair (List ℕ) Kept)) (ownerless : ℕ) : Type 0 where
  pub limits : table.limits ≡ room_of table.limits ∷ []
  pub small : room_of table.limits < 2 ^ 32
  pub charged : IsCharged (Shared (room_of table.limits)) (λ (k : List ℕ). 0) (contents fp_cmp table)
  pub few : len (places_in table).kept ≤ room_of table.limits
  pub counted : ownerless ≡ zeros (places_in table).kept
