-- What a step of a checkpoint's records leaves.
use Rattle.std.specs.Prelude.{◌≡◌, ◌≤◌, ℕ, Bool, List, [], ◌∷◌, length, drop, All, Option, MatchBool, MatchOption}
use Rattle.cloud_memory.specs.RecordBody.body.PutItem.{PutItem}
use Rattle.cloud_memory.specs.RecordBody.FirstSpelling.{FitsItem}
use Rattle.cloud_memory.specs.RecordBody.Spelling.{Body, FitsKept}
use Rattle.cloud_memory.specs.RecordBody.body.KeptItem.{KeptItem}
use Rattle.cloud_memory.specs.RecordBody.body.SpentBody.{SpentBody}
use Rattle.cloud_memory.specs.ShareIndex.Shares.{Shares}
use Rattle.cloud_memory.specs.SpentTable.Spent.{Spent as Row}
use Rattle.checkpoints.specs.Laying.{IsNextInBuffer}
use Rattle.checkpoints.specs.Picking.{batches, with_batch}
use Rattle.checkpoints.specs.Records.{owned_in, items_from, kept_from, spents_from}
use Rattle.checkpoints.specs.declared.position.Position.{Position}

-- The first of the records is in the buffer, and the others are left; or else there was none.
abbrev pub Steps : List Body → List Body → List ℕ → Bool → Type 0
Steps old new bytes found = MatchBool found (IsNextInBuffer old new bytes) ((old ≡ []) × (new ≡ []))

-- These shares of the user's are listed next, up to the slot behind them.
pub record AreListedNext (shares : Shares) (user from : ℕ) (items : List PutItem) (behind : ℕ) : Type 0 where
  pub next : batches (items_from shares user from) ≡ with_batch items (batches (items_from shares user behind))
  pub ends : items ≡ [] → owned_in user (drop behind shares.owner_slots) ≡ []
  pub fit : All FitsItem items
  pub few : length items ≤ 256

-- These shares that no user owns come next, up to the slot behind them.
pub record AreKept (shares : Shares) (from : ℕ) (items : List KeptItem) (behind : ℕ) : Type 0 where
  pub next : batches (kept_from shares from) ≡ with_batch items (batches (kept_from shares behind))
  pub ends : items ≡ [] → kept_from shares behind ≡ []
  pub fit : All FitsKept items
  pub few : length items ≤ 256

-- All but the Puts stand where they stood.
pub record KeepsAllButPuts (old new : Position) : Type 0 where
  pub place : new.place ≡ old.place
  pub file : new.file ≡ old.file
  pub row : new.row ≡ old.row

-- No user from this one on has spent anything, or else the next one that has; and the user behind it.
abbrev pub IsNextSpent : List Row → ℕ → Option (SpentBody × ℕ) → Type 0
IsNextSpent rows from found = MatchOption found (spents_from rows from ≡ []) (λ x. spents_from rows from ≡ x.0 ∷ spents_from rows x.1)
