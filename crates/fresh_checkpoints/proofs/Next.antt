-- The chain of a checkpoint of a memory, in the place of another one.
use Rattle.std.proofs.Common.{◌≡◌, ◌≢◌, ℕ, ◌+◌, ◌≤◌, List, [], ◌∷◌, ◌++◌, length, map, None, IsTrue, refl, sym, subst, arith}
use Rattle.std.specs.Prelude.{All}
use Rattle.cloud_disk.specs.CdEdges.area.Area.{Area}
use Rattle.cloud_disk.specs.CdEdges.area.Area.TheVariants.{Journal}
use Rattle.cloud_disk.specs.CdEdges.Disk.{Cloud, LeavesOnly, reads}
use Rattle.cloud_disk.specs.JournalHalves.Halves.{half_limit}
use Rattle.cloud_disk.specs.JournalHalves.Journals.{Where, used_by, with_body}
use Rattle.cloud_disk.specs.JournalStart.start.Header.{Header}
use Rattle.cloud_disk.specs.JournalStart.Spelling.{start_bytes}
use Rattle.cloud_disk.proofs.JournalStart.Lengths as lengths
use Rattle.cloud_disk.specs.CommitJournal.States as journals
use Rattle.cloud_disk.specs.RecordBody.Spelling as bodies
use Rattle.cloud_disk.specs.RecordBody.Spelling.{Body, FitsBody, body_bytes}
use Rattle.cloud_disk.specs.UserDedup.command.Command.{Command}
use Rattle.cloud_disk.specs.UserDedup.Spending.{IsWithin}
use Rattle.cloud_disk.specs.CloudAreas.Checkpoints.{IsCheckpointOfList}
use Rattle.cloud_disk.specs.CloudAreas.Standing.{Chain, where_of}
use Rattle.cloud_disk.specs.Disk.{IsRead}
use Rattle.compact_memories.specs.CloudMemory.cloud.CloudMemory.{CloudMemory}
use Rattle.compact_memories.specs.Checkpoints.Laying.{records_len, checkpoint_behind, KeepsOrSettles}
use Rattle.compact_memories.specs.Checkpoints.Records.{records_of}
use Rattle.compact_memories.specs.Checkpoints.Known.{recipes_of, checkpoint_in}
use Rattle.compact_memories.proofs.Checkpoints.RecordsLaw.{records_law}
use Rattle.compact_memories.proofs.Checkpoints.Summed.{chain_more, chain_behind, chain_first}
use Rattle.fresh_checkpoints.specs.Fresh.{IsNextMemory}
use Rattle.fresh_checkpoints.specs.Switching.{IsNextChain, StandsForOneOf, IsReadOne, IsMigrating}
use Rattle.fresh_checkpoints.proofs.Fresh.{holds}
use Rattle.fresh_checkpoints.proofs.Switch.{switches, switched, migrates, migrated}

-- ---- the next chain

-- any chain
abbrev pub no_chain : Header → Chain
no_chain header = record { half = 0; start = record { header = header; checkpoint = None }; records = []; recipes = [] }

abbrev pub RoomLaw : Type 0
RoomLaw = (header : Header) (list : List Command) (c : Chain) (body : Body) → IsWithin header.shape header.rooms list
    → IsCheckpointOfList header.format header.shape list c.records c.recipes → All FitsBody c.records → FitsBody body
    → used_by (with_body (where_of c) (body_bytes body)) ≤ half_limit header.rooms

module _ (law : RoomLaw) (two : Header) (other : List Command) (commands region : ℕ) (memory : CloudMemory) (old : Cloud)
    (p : IsNextMemory two other commands region memory old) (fit : All FitsBody (records_of memory)) (c : Chain) where
  abbrev next : Chain
  next = checkpoint_in two other c commands region memory

  is_checkpoint : IsCheckpointOfList two.format two.shape other (records_of memory) (recipes_of two.shape other memory)
  is_checkpoint =
      subst (λ (n : ℕ). IsCheckpointOfList n two.shape other (records_of memory) (recipes_of two.shape other memory)) (sym p.fresh.format)
      (records_law two.shape other memory p.fresh.remembers p.fresh.are_listed)

  abbrev small : Body
  small = bodies.Spent (record { user = record { 0 = 0 }; owners = 0; shares = 0; recipes = 0 })

  small_fits : FitsBody small
  small_fits = record { user = omega arith; owners = omega arith; shares = omega arith; recipes = omega arith }

  room : used_by (with_body (where_of next) (body_bytes small)) ≤ half_limit two.rooms
  room = law two other next small p.within is_checkpoint fit small_fits

  start_len : length (start_bytes next.start) ≡ 57
  start_len = lengths.second next.start _ p.fresh.format refl

  behind : used_by (with_body (where_of next) (body_bytes small)) ≡ length (start_bytes next.start) + 5 + (records_len (records_of memory) + 30) + 1
  behind = omega (arith, chain_first (start_bytes next.start) (map body_bytes (records_of memory) ++ body_bytes small ∷ []), chain_behind (records_of memory) (body_bytes small))

  used : used_by (where_of next) ≡ 63 + records_len (records_of memory)
  used = omega (arith, start_len, chain_first (start_bytes next.start) (map body_bytes (records_of memory)), chain_more (records_of memory))

  pub short : 63 + records_len (records_of memory) ≤ half_limit two.rooms
  short = omega (arith, room, behind, start_len)

  is_next : IsNextChain two other next old
  is_next = record {
    sound = p.sound;
    holds = holds two (reads old.now) other commands region memory p.fresh c;
    header_is = refl;
    fit = fit;
    within = omega (arith, used, short);
  }

  module _ (one : Header) (list : List Command) (journal : journals.JournalState) (new : Cloud)
      (run : KeepsOrSettles journal two commands (length (records_of memory)) region (records_of memory) old new) where
    pub switching : IsRead one list c journal old → LeavesOnly old new (StandsForOneOf one list two other)
    switching read = switches one two list other c next journal old new (record { read = read; next_chain = is_next }) (run read.told (where_of c) read.ended)

    pub migrating : IsReadOne one list c journal old → LeavesOnly old new (IsMigrating one list two other)
    migrating read = migrates one two list other c next journal old new (record { read = read; next_chain = is_next }) (run read.told (where_of c) read.ended)

  module _ (one : Header) (list : List Command) (journal after : journals.JournalState) (new : Cloud) (told : IsTrue old.told → IsTrue new.told) (limit : after.limit ≡ half_limit two.rooms)
      (taken : IsTrue old.told → (w : Where) → journals.IsJournalEnded journal (old.now Journal) w
      → journals.IsJournalEnded after (new.now Journal) (checkpoint_behind w two commands (length (records_of memory)) region (records_of memory)))
      (stay : IsTrue old.told → (area : Area) → area ≢ Journal → new.now area ≡ old.now area) where
    pub switched_to : IsRead one list c journal old → IsRead two other next after new
    switched_to read =
        switched one two list other c next journal after old new (record { read = read; next_chain = is_next }) (told read.told)
        (taken read.told (where_of c) read.ended) limit (stay read.told)

    pub migrated_to : IsReadOne one list c journal old → IsRead two other next after new
    migrated_to read =
        migrated one two list other c next journal after old new (record { read = read; next_chain = is_next }) (told read.told)
        (taken read.told (where_of c) read.ended) limit (stay read.told)

-- ---- the records that were counted and laid are the memory's

module _ (two : Header) (commands region count : ℕ) (bodies all : List Body) (number : count ≡ length all) (same : bodies ≡ all) where
  pub kept_as : (journal : journals.JournalState) (old new : Cloud) → KeepsOrSettles journal two commands count region bodies old new
      → KeepsOrSettles journal two commands (length all) region all old new
  kept_as journal old new run =
      subst (λ (n : ℕ). KeepsOrSettles journal two commands n region all old new) number
      (subst (λ (b : List Body). KeepsOrSettles journal two commands count region b old new) same run)

  pub ended_as : (after : journals.JournalState) (new : Cloud) (w : Where) → journals.IsJournalEnded after (new.now Journal) (checkpoint_behind w two commands count region bodies)
      → journals.IsJournalEnded after (new.now Journal) (checkpoint_behind w two commands (length all) region all)
  ended_as after new w ended =
      subst (λ (n : ℕ). journals.IsJournalEnded after (new.now Journal) (checkpoint_behind w two commands n region all)) number
      (subst (λ (b : List Body). journals.IsJournalEnded after (new.now Journal) (checkpoint_behind w two commands count region b)) same ended)
