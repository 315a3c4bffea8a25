-- What the steps of a call need and leave. No public clause cites this module.
use Rattle.std.specs.Prelude.{◌≡◌, ℕ, ◌+◌, ◌*◌, ◌^◌, ◌<◌, ◌≤◌, max, List, [], ◌∷◌, length, Option, None, Result, MatchResult, is_some, if◌then◌else◌}
use Rattle.std.specs.FinMap.{FinMap, get, insert, len}
use Rattle.spent_table.specs.CdBase.ids.Fp.{Fp}
use Rattle.spent_table.specs.CdBase.ids.UserId.{UserId}
use Rattle.file_index.specs.declared.key.Entry.{Entry}
use Rattle.file_index.specs.Order.{key_cmp}
use Rattle.file_index.specs.PoolMap.accounts.Accounts.TheVariants.{PerUser}
use Rattle.file_index.specs.Files.{key_of}
use Rattle.file_index.specs.Files.{used_by as files_used}
use Rattle.file_index.specs.PoolMap.Accounts.{limit_for, keys_of}
use Rattle.cloud_areas.specs.JournalStart.rooms.UserRooms.{UserRooms}
use Rattle.cloud_areas.specs.RecordBody.body.CommitBody.{CommitBody}
use Rattle.cloud_areas.specs.RecordBody.body.PutItem.{PutItem}
use Rattle.spent_table.specs.CdBase.place.Place.{Place}
use Rattle.share_index.specs.Order.{owner_of}
use Rattle.share_index.specs.Shares.{used_by as owners_used}
use Rattle.spent_table.specs.Spending.{spent_by}
use Rattle.cloud_memory.specs.declared.cloud.CloudMemory.{CloudMemory}
use Rattle.cloud_memory.specs.declared.rooms.Full.{Full}
use Rattle.cloud_memory.specs.declared.rooms.New.{New}
use Rattle.cloud_memory.specs.Memory.{Memory}
use Rattle.cloud_memory.specs.News.{AreNewTo}
use Rattle.cloud_memory.specs.Records.{full_entries}
use Rattle.cloud_memory.specs.Rooms.{memory_of}
use Rattle.cloud_memory.specs.Steps.{with_item, part_in}

-- The limits are as they were, and the numbers of slots for places, for owners and for entries.
pub record KeepsLimits (old new : CloudMemory) : Type 0 where
  pub fps : new.shares.fps ≡ old.shares.fps
  pub owners : new.shares.accounts ≡ old.shares.accounts
  pub files : new.files.accounts ≡ old.files.accounts
  pub slots : length new.shares.place_slots ≡ length old.shares.place_slots
  pub owned : length new.shares.owner_slots ≡ length old.shares.owner_slots
  pub entries : length new.files.slots ≡ length old.files.slots

-- A fingerprint got this place.
pub record HasPlacedShare (old new : CloudMemory) (fp : Fp) (place : Place) : Type 0 where
  pub places : new.shares.places ≡ insert old.shares.places fp.0 place
  pub owners : new.shares.owners ≡ old.shares.owners
  pub files : new.files ≡ old.files
  pub spent : new.spent ≡ old.spent
  pub end : new.shares_end ≡ max old.shares_end (place.at + place.len)
  pub recipes_end : new.recipes_end ≡ old.recipes_end
  pub limits : KeepsLimits old new

-- The user owns the fingerprint too.
pub record Owned (old new : CloudMemory) (user : UserId) (fp : Fp) : Type 0 where
  pub owners : new.shares.owners ≡ insert old.shares.owners (owner_of user.0 fp.0) 0
  pub places : new.shares.places ≡ old.shares.places
  pub files : new.files ≡ old.files
  pub spent : new.spent ≡ old.spent
  pub shares_end : new.shares_end ≡ old.shares_end
  pub recipes_end : new.recipes_end ≡ old.recipes_end
  pub limits : KeepsLimits old new

-- The user doesn't own the fingerprint, and the indexes have room for it.
pub record HasShareRoom (cloud : CloudMemory) (user : UserId) (fp : Fp) : Type 0 where
  pub new : get cloud.shares.owners (owner_of user.0 fp.0) ≡ None
  pub owners : owners_used cloud.shares user.0 < limit_for cloud.shares.accounts user.0
  pub fps : get cloud.shares.places fp.0 ≡ None → len cloud.shares.places < cloud.shares.fps

-- how much further on the shares end with one more, at most: its bytes, whatever their number, and those that lie unused in front of it
abbrev pub reach_limit : ℕ
reach_limit = 2 ^ 33

-- The share is added with its part of the record.
pub record HasAddedShare (old new : CloudMemory) (user : UserId) (n : New) (item : PutItem) : Type 0 where
  pub part : item ≡ part_in (memory_of old) n
  pub taken : memory_of new ≡ with_item user (memory_of old) item
  pub lacks : get old.shares.owners (owner_of user.0 n.fp.0) ≡ None
  pub near : new.shares_end ≤ old.shares_end + reach_limit
  pub limits : KeepsLimits old new

-- The shares are added, one behind another.
abbrev pub AddsAll : CloudMemory → CloudMemory → UserId → List New → List PutItem → Type 0
AddsAll old new user [] [] = new ≡ old
AddsAll old new user [] (item ∷ items) = ⊥
AddsAll old new user (n ∷ news) [] = ⊥
AddsAll old new user (n ∷ news) (item ∷ items) = (mid : CloudMemory) × HasAddedShare old mid user n item × AddsAll mid new user news items

-- These shares are new to the user, and the indexes have room for all of them.
pub record MayAdd (cloud : CloudMemory) (user : UserId) (news : List New) : Type 0 where
  pub apart : AreNewTo (memory_of cloud) user news
  pub users : ℕ
  pub limit : ℕ
  pub accounts : cloud.shares.accounts ≡ PerUser users limit
  pub known : user.0 < users
  pub owners : keys_of (λ k. k.user) cloud.shares.owners user.0 + length news ≤ limit
  pub fps : len cloud.shares.places + length news ≤ cloud.shares.fps
  pub end : cloud.shares_end + reach_limit * length news < 2 ^ 63

-- The user's rooms are wide enough for a Put of so many shares with so many bytes, and the indexes have room for it.
pub record FitsPut (rooms : UserRooms) (m : Memory) (user : UserId) (count more : ℕ) : Type 0 where
  pub place : user.0 < rooms.users
  pub owners : (spent_by m.spent user).owners + count ≤ rooms.owners
  pub shares : (spent_by m.spent user).shares + more ≤ rooms.shares
  pub owned : keys_of (λ k. k.user) m.owners user.0 + count ≤ rooms.owners
  pub placed : len m.places + count ≤ rooms.users * rooms.owners

-- the bytes of a share's part of a Put's record: its fingerprint and a flag, and a place where there was none
abbrev pub part_len : Option Place → New → ℕ
part_len o n = length n.fp.0 + (if is_some o then 1 else 13)

-- a memory with another map of entries
abbrev pub with_files : Memory → FinMap key_cmp Entry → Memory
with_files m files = record { places = m.places; owners = m.owners; files = files; spent = m.spent; shares_end = m.shares_end; recipes_end = m.recipes_end }

-- The version has the entry that the Commit says.
pub record Entered (old new : CloudMemory) (body : CommitBody) : Type 0 where
  pub memory : memory_of new ≡ with_files (memory_of old) (insert old.files.files (key_of body.user.0 body.tag.0 body.version.0) (record { at = body.at; len = body.len; fp = body.fp }))
  pub room : ¬ (files_used old.files body.user.0 ≡ limit_for old.files.accounts body.user.0)
  pub limits : KeepsLimits old new

-- The user has as many entries as it may, and nothing changed.
pub record IsCrowded (old new : CloudMemory) (body : CommitBody) (full : Full) : Type 0 where
  pub same : new ≡ old
  pub full_is : full ≡ full_entries old body.user
  pub used : files_used old.files body.user.0 ≡ limit_for old.files.accounts body.user.0

abbrev pub EntersCommit : CloudMemory → CloudMemory → CommitBody → Result Unit Full → Type 0
EntersCommit old new body result = MatchResult result (λ _. Entered old new body) (λ full. IsCrowded old new body full)
