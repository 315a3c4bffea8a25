-- The memory that was read, without what no user owns, is what a checkpoint of the compact list needs.
use Rattle.std.proofs.Common.{◌≡◌, ℕ, ◌^◌, ◌+◌, ◌*◌, ◌<◌, ◌≤◌, List, [], length, Option, Some, refl, sym, ap, ◌∙◌, subst, arith}
use Rattle.std.specs.Prelude.{unwrap_or}
use Rattle.std.specs.FinMap.{get}
use Rattle.fresh_checkpoints.specs.CdBase.ids.CloudNo.{CloudNo}
use Rattle.fresh_checkpoints.specs.CdBase.ids.Fp.{Fp}
use Rattle.fresh_checkpoints.specs.CdBase.ids.Tag.{Tag}
use Rattle.fresh_checkpoints.specs.CdBase.ids.UserId.{UserId}
use Rattle.fresh_checkpoints.specs.CdBase.ids.Version.{Version}
use Rattle.fresh_checkpoints.specs.CdBase.place.Place.{Place}
use Rattle.fresh_checkpoints.specs.CdBase.shape.Shape.{Shape}
use Rattle.fresh_checkpoints.specs.CdEdges.area.Area.TheVariants.{Shares, Recipes}
use Rattle.fresh_checkpoints.specs.CdEdges.Disk.{Cloud}
use Rattle.cloud_opening.specs.ContainerLog.Laying.{IsAt}
use Rattle.cloud_opening.specs.FileIndex.key.Entry.{Entry}
use Rattle.cloud_opening.specs.FileIndex.key.FileKey.{FileKey}
use Rattle.cloud_opening.specs.FileIndex.Files.{key_of}
use Rattle.cloud_opening.specs.CommitJournal.States as journals
use Rattle.cloud_opening.specs.JournalStart.rooms.UserRooms.{UserRooms}
use Rattle.cloud_opening.specs.UserDedup.command.Command.{Command}
use Rattle.cloud_opening.specs.UserDedup.file_list.FileEntry.{FileEntry}
use Rattle.cloud_opening.specs.UserDedup.Cloud.{counted, user_view, held_bytes}
use Rattle.cloud_opening.specs.UserDedup.Compact.{compact}
use Rattle.cloud_opening.specs.UserDedup.Dedup.{IsSound}
use Rattle.cloud_opening.specs.UserDedup.Pages.{entry_at}
use Rattle.cloud_opening.specs.UserDedup.Spending.{nothing, spent_by_all, IsWithin}
use Rattle.cloud_opening.proofs.UserDedup.CompactSound.{compact_sound}
use Rattle.cloud_opening.proofs.UserDedup.Compacting.{same_entries, same_held}
use Rattle.fresh_checkpoints.specs.CloudAreas.Chains.{least_shares, least_recipes}
use Rattle.fresh_checkpoints.proofs.CloudAreas.Room.{spent_above}
use Rattle.fresh_checkpoints.specs.CloudMemory.cloud.CloudMemory.{CloudMemory}
use Rattle.fresh_checkpoints.specs.CloudMemory.Memory.{Memory, Remembers, Stand}
use Rattle.fresh_checkpoints.specs.CloudMemory.Rooms.{memory_of}
use Rattle.fresh_checkpoints.specs.Checkpoints.Known.{AreListed}
use Rattle.large_users.specs.CompactLists.Live.{live_of, IsAlive}
use Rattle.large_users.proofs.CompactLists.Spent.{spent_kept}
use Rattle.fresh_checkpoints.specs.CompactMemories.Kept.{live_places, commands_in, IsCompacted}
use Rattle.fresh_checkpoints.specs.CompactMemories.Moved.{PlacesLie}
use Rattle.fresh_checkpoints.specs.CompactMemories.Tables.{with_table}
use Rattle.fresh_checkpoints.proofs.CompactMemories.Keeping as keeping
use Rattle.fresh_checkpoints.proofs.CompactMemories.Live.{live_from}
use Rattle.fresh_checkpoints.proofs.CompactMemories.Numbers.{numbers}
use Rattle.fresh_checkpoints.specs.Fresh.{IsNextMemory}
use Rattle.large_users.specs.MigrationModel.Migrating.{AreSmallEnough, header_two}
use Rattle.large_users.proofs.MigrationModel.Large.{all_within}
use Rattle.store_migration.specs.Reading.{IsReadFirst}

-- ---- places that are among those of another memory

-- Each place and each entry of the one memory is the other's.
record AreOf (old new : Memory) : Type 0 where
  pub places : (fp : Fp) (p : Place) → get new.places fp.0 ≡ Some p → get old.places fp.0 ≡ Some p
  pub files : new.files ≡ old.files

lie_still : (region a b more most : ℕ) (old new : Memory) → AreOf old new → a ≤ more → b ≤ most → PlacesLie region a b old → PlacesLie region more most new
lie_still region a b more most old new of one two lie = record {
  shares = λ fp p at. let s = lie.shares fp p (of.places fp p at) in let e = s.1 in (s.0, omega (arith, e, one));
  shares_apart = λ fp other p q at there. lie.shares_apart fp other p q (of.places fp p at) (of.places other q there);
  recipes = λ key e at. let s = lie.recipes key e (ap (λ m. get m key) (sym of.files) ∙ at) in let f = s.1 in (s.0, omega (arith, f, two));
  recipes_apart = λ key other d e at there. lie.recipes_apart key other d e (ap (λ m. get m key) (sym of.files) ∙ at) (ap (λ m. get m other) (sym of.files) ∙ there);
}

-- ---- the memory of the compact list

module _ (shape : Shape) (cloud_no : CloudNo) (rooms : UserRooms) (list : List Command) (journal : journals.JournalState) (cloud : Cloud) (old new : CloudMemory)
    (is : IsReadFirst shape cloud_no list journal (memory_of old) cloud) (l : AreListed old) (c : IsCompacted old (memory_of new)) (k : AreListed new)
    (small : AreSmallEnough shape rooms list) where
  abbrev kept : List Command
  kept = compact shape list

  sound : IsSound shape cloud_no.0 list
  sound = is.read.sound

  within_kept : IsWithin shape rooms kept
  within_kept = all_within shape rooms list small

  -- a user behind the last row keeps nothing, since it may have nothing
  none_kept : rooms.users ≤ length old.spent → (user : UserId) → length old.spent ≤ user.0 → live_of shape list user ≡ nothing
  none_kept few user past = sym (spent_kept shape cloud_no.0 list sound user) ∙ spent_above shape rooms kept within_kept user.0 (omega (arith, few, past))

  remembers_kept : rooms.users ≤ length old.spent → Remembers shape kept (memory_of new)
  remembers_kept few = keeping.stays shape cloud_no.0 list is.table old (memory_of new) sound is.remembers l c (none_kept few)

  -- the memory with the table by which it is the list's
  abbrev tabled : CloudMemory
  tabled = record { shares = old.shares; files = old.files; spent = is.table; shares_end = old.shares_end; recipes_end = old.recipes_end }

  tabled_listed : AreListed tabled
  tabled_listed = record { places = l.places; owners = l.owners; entries = l.entries }

  -- what is placed still is owned by some user, and lies where it lay
  alive_from : (fp : Fp) (p : Place) → get new.shares.places fp.0 ≡ Some p → IsAlive shape list fp × (get old.shares.places fp.0 ≡ Some p)
  alive_from fp p at = live_from shape list tabled is.remembers tabled_listed fp p ((c.places fp p).0 at)

  string_lies : (fp : Fp) (place : Place) → get new.shares.places fp.0 ≡ Some place → IsAt (cloud.now Shares).read (record { place = place.at; blob = held_bytes kept fp })
  string_lies fp place at =
      let alive = alive_from fp place at in
      subst (λ (o : Option (List ℕ)). IsAt (cloud.now Shares).read (record { place = place.at; blob = unwrap_or o [] })) (sym (same_held shape list alive.0.0 fp alive.0.1))
      (is.stand.strings fp place alive.1)

  entry_lies : (user : UserId) (key : Tag × Version) (e : Entry) (entry : FileEntry) → get new.files.files (key_of user.0 key.0.0 key.1.0) ≡ Some e
      → entry_at (user_view shape kept user).files key ≡ Some entry → IsAt (cloud.now Recipes).read (record { place = e.at; blob = entry.recipe })
  entry_lies user key e entry got at =
      is.stand.entries user key e entry (ap (λ m. get m (key_of user.0 key.0.0 key.1.0)) (sym c.files) ∙ got) (sym (same_entries shape list user key) ∙ at)

  stand_kept : Stand shape (cloud.now Shares).read (cloud.now Recipes).read kept (memory_of new)
  stand_kept = record { strings = string_lies; entries = entry_lies }

  lie_kept : PlacesLie 0 (least_shares + 2 * (spent_by_all kept).shares) (least_recipes + 2 * (spent_by_all kept).recipes) (memory_of new)
  lie_kept =
      lie_still 0 8589934592 1073741824 (least_shares + 2 * (spent_by_all kept).shares) (least_recipes + 2 * (spent_by_all kept).recipes) (memory_of old) (memory_of new)
      (record { places = λ fp p at. (alive_from fp p at).1; files = c.files }) (omega arith) (omega arith) is.lie

  -- as many commands as were counted before
  number_kept : (commands : ℕ) → commands ≡ commands_in (memory_of old) → commands < 2 ^ 64 → counted kept ≡ commands
  number_kept commands number less =
      let many : commands_in (memory_of old) ≡ length kept = numbers shape cloud_no.0 list (with_table is.table (memory_of old)) sound is.remembers in
      omega (arith, many, number, less)

  pub next_kept : (commands : ℕ) → commands ≡ commands_in (memory_of old) → commands < 2 ^ 64 → rooms.users ≤ length old.spent
      → IsNextMemory (header_two shape cloud_no rooms) kept commands 0 new cloud
  next_kept commands number less few = record {
    sound = compact_sound shape cloud_no.0 list sound;
    within = within_kept;
    fresh = record {
      format = refl;
      remembers = remembers_kept few;
      are_listed = k;
      stand = stand_kept;
      lie = lie_kept;
      number = number_kept commands number less;
    };
  }
