-- A journal of format 1 that is read into the memory, over the areas of a cloud.
use Rattle.std.proofs.Common.{◌≡◌, inl, inr, ℕ, ◌+◌, ◌*◌, ◌<◌, ◌≤◌, List, length, drop, Option, Some, None, Result, Ok, Err, OnOk, refl, sym, ◌∙◌, ap, subst, arith}
use Rattle.fresh_checkpoints.specs.CdBase.ids.CloudNo.{CloudNo}
use Rattle.fresh_checkpoints.specs.CdBase.shape.Shape.{Shape}
use Rattle.fresh_checkpoints.specs.CdEdges.area.Area.{Area}
use Rattle.fresh_checkpoints.specs.CdEdges.area.Area.TheVariants.{Journal, Shares, Recipes}
use Rattle.fresh_checkpoints.specs.CdEdges.Disk.{Store, Areas, Cloud, Image, reads}
use Rattle.fresh_checkpoints.specs.CdEdges.Shelf.{stable, Stays}
use Rattle.cloud_opening.specs.JournalStart.start.Checkpoint.{Checkpoint}
use Rattle.cloud_opening.specs.JournalStart.start.Header.{Header}
use Rattle.cloud_opening.specs.JournalStart.start.Start.{Start}
use Rattle.cloud_opening.specs.JournalStart.Ranges.{IsBehind, usual_rooms}
use Rattle.cloud_opening.specs.JournalStart.Spelling.{region_of, recipes_end_of}
use Rattle.fresh_checkpoints.specs.JournalHalves.Halves.{half_len}
use Rattle.fresh_checkpoints.specs.JournalHalves.Journals.{Where}
use Rattle.fresh_checkpoints.specs.JournalHalves.Findings.{part_of}
use Rattle.cloud_opening.specs.CommitJournal.Openings.{IsOpened}
use Rattle.cloud_opening.specs.CommitJournal.States.{JournalState, IsJournalEnded}
use Rattle.fresh_checkpoints.specs.CloudMemory.cloud.CloudMemory.{CloudMemory}
use Rattle.fresh_checkpoints.specs.CloudMemory.Fitting.{FitsRecords}
use Rattle.fresh_checkpoints.specs.CloudMemory.Greatest.{KeepsGreatest}
use Rattle.fresh_checkpoints.specs.CloudMemory.Memory.{Memory}
use Rattle.fresh_checkpoints.proofs.CloudMemoryLaws.Fitting.{begun_fits}
use Rattle.cloud_opening.specs.RecordChecks.ground.Ground.{Ground}
use Rattle.fresh_checkpoints.specs.CdBase.rooms.Room.TheVariants.{Fps, Owners, Files}
use Rattle.first_laws.specs.FirstRecords.Limits.{HasFirstRooms, limit_of}
use Rattle.first_laws.specs.Leaving.{begun_behind}
use Rattle.cloud_opening.specs.Exact.{ground_of}
use Rattle.cloud_opening.specs.Steps.{HasChainEnded}
use Rattle.cloud_opening.specs.Synced.{AreSynced}
use Rattle.cloud_opening.proofs.Synced.{synced_at}
use Rattle.cloud_opening.proofs.Loaded.{gate_behind}
use Rattle.large_users.specs.MigrationModel.Migrating.{header_one}
use Rattle.store_migration.specs.declared.errors.OldErr.{OldErr}
use Rattle.store_migration.specs.declared.errors.OldErr.TheVariants.{NotBegun, Damaged, OtherStore, RoomsTooSmall}
use Rattle.store_migration.specs.declared.errors.MigrateErr.{MigrateErr}
use Rattle.store_migration.specs.declared.errors.MigrateErr.TheVariants as why
use Rattle.store_migration.specs.Answers.{OnMigrateFault}
use Rattle.store_migration.specs.Exact.{users_most, ReplaysFirst, ReplaysAllFirst, ReadsOld, Unbegun, NoStart, New, Other, PastEnd, Unread, Read}
use Rattle.store_migration.specs.Finding.{OpenedAs}
use Rattle.store_migration.specs.Steps.{ReplaysFirstFrom, FromStart, AllFirstRecordsAs, LoadsAs, HasReadAll, IsReadWholeOne, past_err}

-- ---- the memory of no commands

pub behind_fits : (users end : ℕ) → FitsRecords (begun_behind users end)
behind_fits users end = let f = begun_fits users 0 in record { shares = f.shares; recipes = f.recipes; short = f.short; placed = f.placed }

pub rooms_kept : (old new : CloudMemory) → KeepsGreatest old new → HasFirstRooms old → HasFirstRooms new
rooms_kept old new keeps rooms =
    let h = keeps (limit_of Fps) (limit_of Owners) (limit_of Files) (length old.spent) rooms in
    record { fps = h.fps; owners = h.owners; files = h.files; users = refl; slots = h.slots; owned = h.owned; entries = h.entries }

pub users_kept : (old new : CloudMemory) → KeepsGreatest old new → HasFirstRooms old → length new.spent ≡ length old.spent
users_kept old new keeps rooms = (keeps (limit_of Fps) (limit_of Owners) (limit_of Files) (length old.spent) rooms).users

-- ---- the records behind a start

module _ (g : Ground) (half : ℕ) (recipes : List ℕ) (store : Store) (w : Where) (before : JournalState) (m0 : Memory) (after : JournalState) (new : Memory)
    (begun : m0 ≡ begun_behind users_most (recipes_end_of before.start.checkpoint)) (within : recipes_end_of before.start.checkpoint ≤ g.recipes_len) where
  from_start : (answer : Result (Unit {0}) OldErr) → ReplaysFirstFrom g recipes store new before 0 m0 answer → FromStart g recipes store new before answer
  from_start answer from = subst (λ (m : Memory). ReplaysFirstFrom g recipes store new before 0 m answer) begun from

  pub loads : (result : Result (Unit {0}) MigrateErr) → AllFirstRecordsAs g recipes store w before m0 after new result → LoadsAs g half recipes store before new result
  loads (Ok value) all = (within, from_start (Ok tt) all.1)
  loads (Err (why.Open error)) all = inl (within, from_start (Err error) (all new))
  loads (Err why.Already) all = all
  loads (Err (why.TooLarge user room used limit)) all = all
  loads (Err why.Fault) all = tt
  loads (Err why.NoMemory) all = all

  pub loads_ended : (result : Result (Unit {0}) MigrateErr) → AllFirstRecordsAs g recipes store w before m0 after new result → OnOk result (HasChainEnded after store w)
  loads_ended (Ok value) all = record { bodies = all.0.0; ended = all.0.1 }
  loads_ended (Err e) all = tt

-- recipes end past their area
pub loads_past : (g : Ground) (half : ℕ) (recipes : List ℕ) (store : Store) (before : JournalState) (new : Memory) (end : ℕ) (error : OldErr) → end ≡ recipes_end_of before.start.checkpoint → g.recipes_len < end → error ≡ past_err half end
    → LoadsAs g half recipes store before new (Err (why.Open error))
loads_past g half recipes store before new end error is past error_is =
    inr (subst (λ (n : ℕ). g.recipes_len < n) is past, error_is ∙ ap (past_err half) is)

-- ---- over the areas

-- format 1 has no regions
no_region : (half format : ℕ) (o : Option Checkpoint) → format ≡ 1 → IsBehind half format o → region_of o ≡ 0
no_region half format None one is = refl
no_region half format (Some checkpoint) one is = is.without_region one

module _ (shape : Shape) (cloud_no : CloudNo) (c : Cloud) (state : JournalState) (o : IsOpened state (c.now Journal) (header_one shape cloud_no)) (half : ℕ) (half_is : state.current.half ≡ half)
    (g : Ground) (shape_is : g.shape ≡ shape) (rooms_is : g.rooms ≡ usual_rooms) (region_is : g.region ≡ 0) (shares_is : g.shares_len ≡ length (c.now Shares).read) (recipes_is : g.recipes_len ≡ length (c.now Recipes).read) where
  abbrev header : Header
  header = header_one shape cloud_no

  abbrev w : Where
  w = o.w

  end_is : recipes_end_of state.start.checkpoint ≡ recipes_end_of w.start.checkpoint
  end_is = ap (λ (s : Start). recipes_end_of s.checkpoint) o.reading.start

  abbrev ground : Ground
  ground = ground_of header w.start (reads c.now)

  ground_is : g ≡ ground
  ground_is =
      let behind = o.reading.is_current.begun.is_start.behind in
      let zero = no_region w.half w.start.header.format w.start.checkpoint (ap (λ (h : Header). h.format) o.header_is) behind in
      let region : g.region ≡ region_of w.start.checkpoint = region_is ∙ sym zero in
      λ i. record { shape = shape_is i; rooms = rooms_is i; region = region i; shares_len = shares_is i; recipes_len = recipes_is i }

  replays : (new : Memory) (answer : Result (Unit {0}) OldErr) → FromStart g (c.now Recipes).read (c.now Journal) new state answer → ReplaysAllFirst header w.half w.start (reads c.now) new answer
  replays new answer from =
      let recipes = (c.now Recipes).read in let journal = (c.now Journal).read in
      let there = subst (λ (k : Ground). FromStart k recipes (c.now Journal) new state answer) ground_is from in
      let at_half = subst (λ (h : ℕ). ReplaysFirst ground h state.start recipes new (drop state.current.gate (part_of h journal)) (h * half_len + state.current.gate) 0 (begun_behind users_most (recipes_end_of state.start.checkpoint)) answer) o.reading.half there in
      let at_start = subst (λ (s : Start). ReplaysFirst ground w.half s recipes new (drop state.current.gate (part_of w.half journal)) (w.half * half_len + state.current.gate) 0 (begun_behind users_most (recipes_end_of s.checkpoint)) answer) o.reading.start at_half in
      subst (λ (n : ℕ). ReplaysFirst ground w.half w.start recipes new (drop n (part_of w.half journal)) (w.half * half_len + n) 0 (begun_behind users_most (recipes_end_of w.start.checkpoint)) answer) (gate_behind state (c.now Journal) w o.reading o.none) at_start

  within_area : recipes_end_of state.start.checkpoint ≤ g.recipes_len → recipes_end_of w.start.checkpoint ≤ length (c.now Recipes).read
  within_area within = omega (arith, within, end_is, recipes_is)

  past : (error : OldErr) (new : Memory) → g.recipes_len < recipes_end_of state.start.checkpoint → error ≡ past_err half (recipes_end_of state.start.checkpoint) → ReadsOld shape cloud_no (reads c.now) new (Err (why.Open error))
  past error new beyond is =
      let same : half ≡ w.half = sym half_is ∙ o.reading.half in
      subst (λ (e : OldErr). ReadsOld shape cloud_no (reads c.now) new (Err (why.Open e))) (sym (is ∙ ap (λ (h : ℕ). past_err h (recipes_end_of state.start.checkpoint)) same ∙ ap (past_err w.half) end_is))
      (PastEnd w.half w.start o.reading.is_current o.header_is (omega (arith, beyond, end_is, recipes_is)))

  pub read_as : (new : Memory) (result : Result (Unit {0}) MigrateErr) → LoadsAs g half (c.now Recipes).read (c.now Journal) state new result → OnMigrateFault result (Unit {0}) (ReadsOld shape cloud_no (reads c.now) new result)
  read_as new (Ok value) loaded = Read w.half w.start o.reading.is_current o.header_is (within_area loaded.0) (replays new (Ok tt) loaded.1)
  read_as new (Err (why.Open error)) loaded = elim loaded [
    | inl here ↦ Unread w.half w.start error o.reading.is_current o.header_is (within_area here.0) (replays new (Err error) here.1)
    | inr beyond ↦ past error new beyond.0 beyond.1
  ]
  read_as new (Err why.Already) loaded = absurd loaded
  read_as new (Err (why.TooLarge user room used limit)) loaded = absurd loaded
  read_as new (Err why.Fault) loaded = tt
  read_as new (Err why.NoMemory) loaded = absurd loaded

  pub read_all : (new : Memory) (after : JournalState) (result : Result (Unit {0}) MigrateErr) → LoadsAs g half (c.now Recipes).read (c.now Journal) state new result → OnOk result (HasChainEnded after (c.now Journal) w)
      → OnOk result (HasReadAll shape cloud_no after new c)
  read_all new after (Ok value) loaded ended = record {
    w = record w { bodies = ended.bodies };
    header_is = o.header_is;
    ended = ended.ended;
    within = within_area loaded.0;
    replays = replays new (Ok tt) loaded.1;
  }
  read_all new after (Err e) loaded ended = tt

-- ---- behind the syncs

-- what was synced reads as before
pub same_reads : (c0 c1 : Cloud) → AreSynced c0 c1 → reads c1.now ≡ reads c0.now
same_reads c0 c1 synced = λ i area. (synced_at c0 c1 synced area i).read

module _ (shape : Shape) (cloud_no : CloudNo) (c0 c1 : Cloud) (synced : AreSynced c0 c1) where
  same_at : (area : Area) → (c1.now area).read ≡ (c0.now area).read
  same_at area = ap (λ (s : Store). s.read) (synced_at c0 c1 synced area)

  pub read_before : (new : Memory) (result : Result (Unit {0}) MigrateErr) → ReadsOld shape cloud_no (reads c1.now) new result → ReadsOld shape cloud_no (reads c0.now) new result
  read_before new result is = subst (λ (image : Image). ReadsOld shape cloud_no image new result) (same_reads c0 c1 synced) is

  on_disk : (area : Area) → c1.now area ≡ stable (c1.now area).read
  on_disk area = let is = synced_at c0 c1 synced area in is ∙ ap (λ (s : Store). stable s.read) (sym is)

  pub read_whole : (after : JournalState) (new : Memory) → HasReadAll shape cloud_no after new c1 → IsReadWholeOne shape cloud_no after new c1
  read_whole after new r = record { w = r.w; header_is = r.header_is; ended = r.ended; on_disk = on_disk; within = r.within; replays = r.replays }

-- the same of a cloud that stays
pub read_all_still : (shape : Shape) (cloud_no : CloudNo) (after : JournalState) (new : Memory) (c d : Cloud) → Stays c d → HasReadAll shape cloud_no after new c → HasReadAll shape cloud_no after new d
read_all_still shape cloud_no after new c d stays r = record {
  w = r.w;
  header_is = r.header_is;
  ended = subst (λ (a : Areas). IsJournalEnded after (a Journal) r.w) (sym stays.now) r.ended;
  within = subst (λ (a : Areas). recipes_end_of r.w.start.checkpoint ≤ length (a Recipes).read) (sym stays.now) r.within;
  replays = subst (λ (a : Areas). ReplaysAllFirst (header_one shape cloud_no) r.w.half r.w.start (reads a) new (Ok tt)) (sym stays.now) r.replays;
}

-- ---- it isn't opened

module _ (shape : Shape) (cloud_no : CloudNo) (after : JournalState) (c : Cloud) (new : Memory) where
  abbrev answer : MigrateErr → Type 0
  answer error = ReadsOld shape cloud_no (reads c.now) new (Err error)

  pub unopened_as : (error : MigrateErr) → OpenedAs shape cloud_no after (c.now Journal) (Err error) → OnMigrateFault {T = Unit {0}} (Err error) (Unit {0}) (answer error)
  unopened_as (why.Open (NotBegun len)) is = subst (λ (n : ℕ). answer (why.Open (NotBegun n))) (sym is.1) (Unbegun is.0)
  unopened_as (why.Open (Damaged at byte)) is = NoStart at byte is
  unopened_as (why.Open (OtherStore found asked at)) is =
      subst (λ (n : ℕ). answer (why.Open (OtherStore found asked n))) (sym is.7)
      (subst (λ (h : Header). answer (why.Open (OtherStore found h (is.0 * half_len + 5)))) (sym is.6)
      (subst (λ (h : Header). answer (why.Open (OtherStore h (header_one shape cloud_no) (is.0 * half_len + 5)))) (sym is.5)
      (Other is.0 is.1 is.2 is.3 is.4)))
  unopened_as (why.Open (RoomsTooSmall room limit at)) is = absurd is
  unopened_as why.Already is = New is.0 is.1 is.2 is.3
  unopened_as (why.TooLarge user room used limit) is = absurd is
  unopened_as why.Fault is = tt
  unopened_as why.NoMemory is = absurd is

-- behind the syncs
pub unopened_before : (shape : Shape) (cloud_no : CloudNo) (c0 c1 : Cloud) (after : JournalState) (new : Memory) (error : MigrateErr) → OnMigrateFault {T = ℕ} (Err error) (Unit {0}) (AreSynced c0 c1)
    → OpenedAs shape cloud_no after (c1.now Journal) (Err error) → OnMigrateFault {T = Unit {0}} (Err error) (Unit {0}) (ReadsOld shape cloud_no (reads c0.now) new (Err error))
unopened_before shape cloud_no c0 c1 after new (why.Open error) synced is = read_before shape cloud_no c0 c1 synced new (Err (why.Open error)) (unopened_as shape cloud_no after c1 new (why.Open error) is)
unopened_before shape cloud_no c0 c1 after new why.Already synced is = read_before shape cloud_no c0 c1 synced new (Err why.Already) (unopened_as shape cloud_no after c1 new why.Already is)
unopened_before shape cloud_no c0 c1 after new (why.TooLarge user room used limit) synced is = absurd is
unopened_before shape cloud_no c0 c1 after new why.Fault synced is = tt
unopened_before shape cloud_no c0 c1 after new why.NoMemory synced is = absurd is
