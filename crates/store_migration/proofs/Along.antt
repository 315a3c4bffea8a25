-- The records that were taken so far, one after another.
use Rattle.std.proofs.Common.{◌≡◌, ℕ, ◌+◌, ◌≤◌, Bool, IsTrue, true, false, List, [], ◌∷◌, ◌++◌, length, nat_lt, Result, Ok, Err, sym, ◌∙◌, ap, subst, arith, length-append}
use Rattle.fresh_checkpoints.specs.CdEdges.area.Area.TheVariants.{Journal, Recipes}
use Rattle.fresh_checkpoints.specs.CdEdges.Disk.{Store, Areas, Cloud}
use Rattle.fresh_checkpoints.specs.CdEdges.Shelf.{IsCall, HasFailed, KeepsCounts, Stays}
use Rattle.fresh_checkpoints.proofs.CdEdges.Calls.{called_twice}
use Rattle.fresh_checkpoints.proofs.CdEdges.Moments.{told_on}
use Rattle.cloud_opening.specs.JournalStart.start.Start.{Start}
use Rattle.cloud_opening.specs.JournalStart.Spelling.{records_of}
use Rattle.fresh_checkpoints.specs.JournalHalves.Journals.{Where}
use Rattle.cloud_opening.specs.CommitJournal.journal.Stage.TheVariants.{Reading}
use Rattle.cloud_opening.specs.CommitJournal.States.{JournalState, IsJournalReading}
use Rattle.fresh_checkpoints.specs.CloudMemory.cloud.CloudMemory.{CloudMemory}
use Rattle.fresh_checkpoints.specs.CloudMemory.Fitting.{FitsRecords}
use Rattle.fresh_checkpoints.specs.CloudMemory.Memory.{Memory}
use Rattle.fresh_checkpoints.specs.CloudMemory.Rooms.{memory_of}
use Rattle.cloud_opening.specs.RecordChecks.ground.Ground.{Ground}
use Rattle.first_laws.specs.FirstRecords.Limits.{HasFirstRooms}
use Rattle.cloud_opening.proofs.Along.{with_bodies}
use Rattle.cloud_opening.proofs.Synced.{still, counts_still}
use Rattle.store_migration.specs.declared.errors.OldErr.{OldErr}
use Rattle.store_migration.specs.declared.errors.MigrateErr.{MigrateErr}
use Rattle.store_migration.specs.declared.errors.MigrateErr.TheVariants as why
use Rattle.store_migration.specs.Answers.{OnMigrateFault}
use Rattle.store_migration.specs.Steps.{ReplaysFirstFrom, NextFirstAs, AllFirstRecordsAs}
use Rattle.store_migration.proofs.Cases.{counted_behind}

-- So many records of the chain were read, and what comes of the rest comes of all.
pub record Leads (g : Ground) (recipes : List ℕ) (store : Store) (w : Where) (start journal : JournalState) (first m : Memory) (records : ℕ) : Type 0 where
  pub bodies : List (List ℕ)
  pub count : records ≡ length bodies
  pub reading : IsJournalReading journal store (with_bodies w bodies)
  pub leads : (new : Memory) (answer : Result (Unit {0}) OldErr) → ReplaysFirstFrom g recipes store new journal records m answer → ReplaysFirstFrom g recipes store new start 0 first answer

-- Each step kept the cloud and its counts, and the records before the gate were taken.
pub record Along (c0 c : ℕ → Cloud) (number before now : ℕ) (g : Ground) (start journal : JournalState) (first memory : CloudMemory) (records long len : ℕ) : Type 0 where
  pub stays : Stays (c0 number) (c number)
  pub call : IsCall c0 c number before now
  pub counts : KeepsCounts (c0 number) (c number) before now
  pub reading : journal.stage ≡ Reading
  pub start_is : journal.start ≡ start.start
  pub limit : journal.limit ≡ start.limit
  pub has_rooms : HasFirstRooms memory
  pub few : records ≤ journal.current.gate
  pub len_is : len ≡ long
  pub unspent : memory.spent ≡ first.spent
  pub fit : FitsRecords (memory_of first) → FitsRecords (memory_of memory)
  pub exact : IsTrue (c0 number).told → (w : Where) → IsJournalReading start ((c0 number).now Journal) w → w.bodies ≡ []
      → Leads g ((c0 number).now Recipes).read ((c0 number).now Journal) w start journal (memory_of first) (memory_of memory) records

module _ (c0 c d : ℕ → Cloud) (number before mid now : ℕ) (g : Ground) (start old new : JournalState) (first memory after : CloudMemory) (records long len len2 of : ℕ)
    (of_is : of ≡ records_of start.start.checkpoint) (along : Along c0 c number before mid g start old first memory records long len) where
  -- the step as its clause says it
  abbrev pub StepAs : Result Bool MigrateErr → Type 0
  StepAs result = IsTrue (c number).told → (w : Where) → IsJournalReading old ((c number).now Journal) w → nat_lt records of ≡ nat_lt (length w.bodies) (records_of w.start.checkpoint)
      → NextFirstAs g ((c number).now Recipes).read ((c number).now Journal) w old (memory_of memory) new (memory_of after) result

  -- the step behind those before, at the areas of the start
  module _ (result : Result Bool MigrateErr) (step : StepAs result) (told : IsTrue (c0 number).told) (w : Where) (reading : IsJournalReading start ((c0 number).now Journal) w) (none : w.bodies ≡ []) where
    abbrev so_far : Leads g ((c0 number).now Recipes).read ((c0 number).now Journal) w start old (memory_of first) (memory_of memory) records
    so_far = along.exact told w reading none

    inside_is : nat_lt records of ≡ nat_lt (length so_far.bodies) (records_of w.start.checkpoint)
    inside_is = ap (λ (n : ℕ). nat_lt n of) so_far.count ∙ ap (nat_lt (length so_far.bodies)) (of_is ∙ ap (λ (s : Start). records_of s.checkpoint) reading.start)

    pub exactly : NextFirstAs g ((c0 number).now Recipes).read ((c0 number).now Journal) (with_bodies w so_far.bodies) old (memory_of memory) new (memory_of after) result
    exactly =
        subst (λ (a : Areas). (v : Where) → IsJournalReading old (a Journal) v → nat_lt records of ≡ nat_lt (length v.bodies) (records_of v.start.checkpoint)
        → NextFirstAs g (a Recipes).read (a Journal) v old (memory_of memory) new (memory_of after) result) along.stays.now
        (step (told_on (c0 number) (c number) along.call.told told)) (with_bodies w so_far.bodies) so_far.reading inside_is

  -- one more
  pub further : Stays (c number) (d number) → IsCall c d number mid now → KeepsCounts (c number) (d number) mid now → new.stage ≡ Reading → new.start ≡ old.start → new.limit ≡ old.limit
      → HasFirstRooms after → old.current.gate + 6 ≤ new.current.gate → len2 ≡ len → after.spent ≡ memory.spent → (FitsRecords (memory_of memory) → FitsRecords (memory_of after)) → StepAs (Ok true)
      → Along c0 d number before now g start new first after (records + 1) long len2
  further stays call counts stage same limit has_rooms gate same_len unspent fit step = record {
    stays = still (c0 number) (c number) (d number) along.stays stays;
    call = called_twice c0 c d number before mid now along.call call;
    counts = counts_still (c0 number) (c number) (d number) before mid now along.counts counts;
    reading = stage;
    start_is = same ∙ along.start_is;
    limit = limit ∙ along.limit;
    has_rooms = has_rooms;
    few = omega (arith, along.few, gate);
    len_is = same_len ∙ along.len_is;
    unspent = unspent ∙ along.unspent;
    fit = λ first_fits. fit (along.fit first_fits);
    exact = λ told w reading none.
        let f = so_far (Ok true) step told w reading none in
        let next = exactly (Ok true) step told w reading none in
        record {
          bodies = f.bodies ++ next.0.0 ∷ [];
          count = omega (arith, f.count, length-append f.bodies (next.0.0 ∷ []));
          reading = next.0.1;
          leads = λ last answer rest. f.leads last answer
              (subst (λ (n : ℕ). ReplaysFirstFrom g ((c0 number).now Recipes).read ((c0 number).now Journal) last old n (memory_of memory) answer) (sym f.count)
              (next.1 last answer (subst (λ (n : ℕ). ReplaysFirstFrom g ((c0 number).now Recipes).read ((c0 number).now Journal) last new (n + 1) (memory_of after) answer) f.count rest)));
        };
  }

  -- the end
  pub all_taken : StepAs (Ok false) → IsTrue (c0 number).told → (w : Where) → IsJournalReading start ((c0 number).now Journal) w → w.bodies ≡ []
      → AllFirstRecordsAs g ((c0 number).now Recipes).read ((c0 number).now Journal) w start (memory_of first) new (memory_of after) (Ok tt)
  all_taken step told w reading none =
      let f = so_far (Ok false) step told w reading none in
      let next = exactly (Ok false) step told w reading none in (
        (f.bodies, next.0),
        f.leads (memory_of after) (Ok tt)
            (subst (λ (n : ℕ). ReplaysFirstFrom g ((c0 number).now Recipes).read ((c0 number).now Journal) (memory_of after) old n (memory_of memory) (Ok tt)) (sym f.count) next.1),
      )

  -- an Err
  pub not_taken : (error : MigrateErr) → StepAs (Err error) → IsTrue (c0 number).told → (w : Where) → IsJournalReading start ((c0 number).now Journal) w → w.bodies ≡ []
      → AllFirstRecordsAs g ((c0 number).now Recipes).read ((c0 number).now Journal) w start (memory_of first) new (memory_of after) (Err error)
  not_taken (why.Open error) step told w reading none = λ last.
      let f = so_far (Err (why.Open error)) step told w reading none in
      f.leads last (Err error)
      (subst (λ (n : ℕ). ReplaysFirstFrom g ((c0 number).now Recipes).read ((c0 number).now Journal) last old n (memory_of memory) (Err error)) (sym f.count)
      (exactly (Err (why.Open error)) step told w reading none last))
  not_taken why.Already step told w reading none = exactly (Err why.Already) step told w reading none
  not_taken (why.TooLarge user room used limit) step told w reading none = exactly (Err (why.TooLarge user room used limit)) step told w reading none
  not_taken why.Fault step told w reading none = tt
  not_taken why.NoMemory step told w reading none = exactly (Err why.NoMemory) step told w reading none

  pub counted_on : {T : Type 0} (result : Result T MigrateErr) → IsCall c d number mid now → OnMigrateFault result (HasFailed (c number) (d number) mid now) (KeepsCounts (c number) (d number) mid now)
      → OnMigrateFault result (HasFailed (c0 number) (d number) before now) (KeepsCounts (c0 number) (d number) before now)
  counted_on result call counts = counted_behind result c0 c d number before mid now along.call along.counts counts
