-- What of a memory is alive, and the memory without the rest.
use Rattle.std.specs.Prelude.{◌≡◌, ◌↔◌, ◌+◌, ◌<◌, ℕ, ◌==◌, List, length, Option, Some, None, if◌then◌else◌}
use Rattle.std.specs.List.{sum_by, Contains}
use Rattle.std.specs.FinMap.{FinMap, get, len, entries}
use Rattle.compact_lists.specs.CdBase.ids.Fp.{Fp}
use Rattle.compact_lists.specs.CdBase.ids.UserId.{UserId}
use Rattle.compact_lists.specs.CdBase.shape.Shape.{Shape}
use Rattle.checkpoints.specs.FileIndex.key.Entry.{Entry}
use Rattle.checkpoints.specs.FileIndex.key.FileKey.{FileKey}
use Rattle.checkpoints.specs.PoolMap.Accounts.{keys_of}
use Rattle.compact_lists.specs.CdBase.place.Place.{Place}
use Rattle.checkpoints.specs.ShareIndex.Order.{owner_cmp}
use Rattle.checkpoints.specs.ShareIndex.Shares.{owners_of, ownerless_in, batches_of}
use Rattle.compact_lists.specs.UserDedup.command.Command.{Command}
use Rattle.compact_lists.specs.UserDedup.Compact.{compact}
use Rattle.compact_lists.specs.UserDedup.Spending.{SpentByUser}
use Rattle.checkpoints.specs.SpentTable.Spending.{spent_by}
use Rattle.checkpoints.specs.CloudMemory.cloud.CloudMemory.{CloudMemory}
use Rattle.checkpoints.specs.CloudMemory.Memory.{Memory, Remembers, as_spent}
use Rattle.checkpoints.specs.CloudMemory.Rooms.{memory_of}
use Rattle.checkpoints.specs.CloudMemory.Steps.{placed_len}
use Rattle.checkpoints.specs.Picking.{picked}
use Rattle.compact_memories.specs.declared.alive.Reclaimed.{Reclaimed}

-- ---- slots

-- the fingerprint and the place in a slot, where some user owns it
abbrev pub live_at : FinMap owner_cmp ℕ → Option (List ℕ × Place) → Option (Fp × Place)
live_at owners None = None
live_at owners (Some e) = if owners_of owners e.0 == 0 then None else Some (record { 0 = e.0 }, e.1)

-- of some slots of places, in order, what some user owns
abbrev pub live_in : FinMap owner_cmp ℕ → List (Option (List ℕ × Place)) → List (Fp × Place)
live_in owners slots = picked (live_at owners) slots

abbrev pub live_places : CloudMemory → List (Fp × Place)
live_places memory = live_in memory.shares.owners memory.shares.place_slots

-- the entries in some slots, in order
abbrev pub entries_in : List (Option (FileKey × Entry)) → List (FileKey × Entry)
entries_in slots = picked (λ (e : Option (FileKey × Entry)). e) slots

abbrev pub live_entries : CloudMemory → List (FileKey × Entry)
live_entries memory = entries_in memory.files.slots

-- ---- numbers

-- what a user keeps, by the maps
abbrev pub kept_in : Memory → UserId → SpentByUser
kept_in m user = record {
  owners = keys_of (λ k. k.user) m.owners user.0;
  shares = sum_by (λ e. if e.0.user == user.0 then placed_len (get m.places e.0.fp) else 0) (entries m.owners);
  recipes = sum_by (λ e. if e.0.user == user.0 then e.1.len else 0) (entries m.files);
}

-- how many commands the compact list has: the begun 256s of what each user owns, and the entries
abbrev pub commands_in : Memory → ℕ
commands_in m = batches_of m.owners + len m.files

-- the bytes of shares and of recipes that are alive, each blob once, and how many shares no user owns
abbrev pub live_sum : CloudMemory → Reclaimed
live_sum memory = record {
  shares = sum_by (λ (x : Fp × Place). x.1.len) (live_places memory);
  recipes = sum_by (λ (x : FileKey × Entry). x.1.len) (live_entries memory);
  dropped = ownerless_in memory.shares.places memory.shares.owners;
}

-- ---- the memory of a compact list

-- The memory has just the places of what users own, and has spent what they keep; owners, uses, entries and ends are as they were.
pub record IsCompacted (old : CloudMemory) (new : Memory) : Type 0 where
  pub places : (fp : Fp) (place : Place) → get new.places fp.0 ≡ Some place ↔ Contains (live_places old) (fp, place)
  pub owners : new.owners ≡ old.shares.owners
  pub files : new.files ≡ old.files.files
  pub users : length new.spent ≡ length old.spent
  pub spent : (user : UserId) → user.0 < length old.spent → as_spent (spent_by new.spent user) ≡ kept_in (memory_of old) user
  pub shares_end : new.shares_end ≡ old.shares_end
  pub recipes_end : new.recipes_end ≡ old.recipes_end

abbrev pub RemembersCompact : Shape → List Command → Memory → Type 0
RemembersCompact shape list m = Remembers shape (compact shape list) m
