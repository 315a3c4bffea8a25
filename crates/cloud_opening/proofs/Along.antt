-- The records that were taken so far, one after another.
use Rattle.std.proofs.Common.{◌≡◌, ℕ, ◌+◌, ◌≤◌, Bool, IsTrue, true, false, List, [], ◌∷◌, ◌++◌, length, nat_lt, Result, Ok, Err, sym, ◌∙◌, ap, subst, arith, length-append}
use Rattle.cloud_disk.specs.CdEdges.area.Area.TheVariants.{Journal, Recipes}
use Rattle.cloud_disk.specs.CdEdges.Disk.{Store, Areas, Cloud}
use Rattle.cloud_disk.specs.CdEdges.Shelf.{IsCall, HasFailed, KeepsCounts, Stays}
use Rattle.cloud_disk.proofs.CdEdges.Calls.{called_twice}
use Rattle.cloud_disk.proofs.CdEdges.Moments.{told_on}
use Rattle.cloud_disk.specs.JournalStart.start.Start.{Start}
use Rattle.cloud_disk.specs.JournalStart.Spelling.{records_of}
use Rattle.cloud_disk.specs.JournalHalves.Journals.{Where}
use Rattle.cloud_disk.specs.CommitJournal.errors.OpenErr.{OpenErr}
use Rattle.cloud_disk.specs.CommitJournal.errors.OpenErr.TheVariants.{Fault, NotBegun, Damaged, OtherStore}
use Rattle.cloud_disk.specs.CommitJournal.journal.Stage.TheVariants.{Reading}
use Rattle.cloud_disk.specs.CommitJournal.Openings.{OnFault}
use Rattle.cloud_disk.specs.CommitJournal.States.{JournalState, IsJournalReading}
use Rattle.record_laws.specs.RecordChecks.CloudMemory.cloud.CloudMemory.{CloudMemory}
use Rattle.record_laws.specs.RecordChecks.CloudMemory.Memory.{Memory}
use Rattle.record_laws.specs.RecordChecks.CloudMemory.Rooms.{memory_of, HasRooms}
use Rattle.record_laws.specs.RecordChecks.ground.Ground.{Ground}
use Rattle.record_laws.specs.RecordChecks.taking.Taking.{Taking}
use Rattle.cloud_opening.specs.Exact.{Closes, number_behind}
use Rattle.cloud_opening.specs.Steps.{IsTraced, From, NextAs, AllRecordsAs}
use Rattle.cloud_opening.specs.declared.window.Window.{Window}
use Rattle.cloud_opening.specs.Windows.{ShowsWindow}
use Rattle.cloud_opening.proofs.Synced.{still, counts_still, counted_behind}

-- the chain with these records
abbrev pub with_bodies : Where → List (List ℕ) → Where
with_bodies w bodies = record w { bodies = bodies }

-- So many records of the chain were read, and what comes of the rest comes of all.
pub record Leads (g : Ground) (recipes : List ℕ) (store : Store) (w : Where) (start journal : JournalState) (first m : Memory) (t0 t : Taking) (records : ℕ) : Type 0 where
  pub bodies : List (List ℕ)
  pub count : records ≡ length bodies
  pub reading : IsJournalReading journal store (with_bodies w bodies)
  pub leads : (new : Memory) (answer : Result ℕ OpenErr) → From g recipes store new journal records m t answer → From g recipes store new start 0 first t0 answer

-- Each step kept the cloud and its counts, and the records before the gate were taken.
pub record Along (c0 c : ℕ → Cloud) (number before now : ℕ) (g : Ground) (start journal : JournalState) (first memory : CloudMemory) (t0 t : Taking) (records long len : ℕ) : Type 0 where
  pub stays : Stays (c0 number) (c number)
  pub call : IsCall c0 c number before now
  pub counts : KeepsCounts (c0 number) (c number) before now
  pub reading : journal.stage ≡ Reading
  pub start_is : journal.start ≡ start.start
  pub limit : journal.limit ≡ start.limit
  pub has_rooms : HasRooms g.rooms memory
  pub few : records ≤ journal.current.gate
  pub len_is : len ≡ long
  pub traced : IsTraced g (memory_of first) t0 → IsTraced g (memory_of memory) t
  pub exact : IsTrue (c0 number).told → (w : Where) → IsJournalReading start ((c0 number).now Journal) w → w.bodies ≡ []
      → Leads g ((c0 number).now Recipes).read ((c0 number).now Journal) w start journal (memory_of first) (memory_of memory) t0 t records

module _ (c0 c d : ℕ → Cloud) (number before mid now : ℕ) (g : Ground) (start old new : JournalState) (first memory after : CloudMemory) (t0 t u : Taking) (records long len len2 of : ℕ)
    (of_is : of ≡ records_of start.start.checkpoint) (along : Along c0 c number before mid g start old first memory t0 t records long len) where
  -- the step as its clause says it
  abbrev pub StepAs : Result Bool OpenErr → Type 0
  StepAs result = IsTrue (c number).told → (w : Where) → IsJournalReading old ((c number).now Journal) w → nat_lt records of ≡ nat_lt (length w.bodies) (records_of w.start.checkpoint)
      → NextAs g ((c number).now Recipes).read ((c number).now Journal) w old (memory_of memory) t new (memory_of after) u result

  -- the step behind those before, at the areas of the start
  module _ (result : Result Bool OpenErr) (step : StepAs result) (told : IsTrue (c0 number).told) (w : Where) (reading : IsJournalReading start ((c0 number).now Journal) w) (none : w.bodies ≡ []) where
    abbrev so_far : Leads g ((c0 number).now Recipes).read ((c0 number).now Journal) w start old (memory_of first) (memory_of memory) t0 t records
    so_far = along.exact told w reading none

    inside_is : nat_lt records of ≡ nat_lt (length so_far.bodies) (records_of w.start.checkpoint)
    inside_is = ap (λ (n : ℕ). nat_lt n of) so_far.count ∙ ap (nat_lt (length so_far.bodies)) (of_is ∙ ap (λ (s : Start). records_of s.checkpoint) reading.start)

    pub exactly : NextAs g ((c0 number).now Recipes).read ((c0 number).now Journal) (with_bodies w so_far.bodies) old (memory_of memory) t new (memory_of after) u result
    exactly =
        subst (λ (a : Areas). (v : Where) → IsJournalReading old (a Journal) v → nat_lt records of ≡ nat_lt (length v.bodies) (records_of v.start.checkpoint)
        → NextAs g (a Recipes).read (a Journal) v old (memory_of memory) t new (memory_of after) u result) along.stays.now
        (step (told_on (c0 number) (c number) along.call.told told)) (with_bodies w so_far.bodies) so_far.reading inside_is

  -- one more
  pub further : Stays (c number) (d number) → IsCall c d number mid now → KeepsCounts (c number) (d number) mid now → new.stage ≡ Reading → new.start ≡ old.start → new.limit ≡ old.limit
      → HasRooms g.rooms after → old.current.gate + 6 ≤ new.current.gate → len2 ≡ len → (IsTraced g (memory_of memory) t → IsTraced g (memory_of after) u) → StepAs (Ok true)
      → Along c0 d number before now g start new first after t0 u (records + 1) long len2
  further stays call counts stage same limit has_rooms gate same_len traced step = record {
    stays = still (c0 number) (c number) (d number) along.stays stays;
    call = called_twice c0 c d number before mid now along.call call;
    counts = counts_still (c0 number) (c number) (d number) before mid now along.counts counts;
    reading = stage;
    start_is = same ∙ along.start_is;
    limit = limit ∙ along.limit;
    has_rooms = has_rooms;
    few = omega (arith, along.few, gate);
    len_is = same_len ∙ along.len_is;
    traced = λ first_traced. traced (along.traced first_traced);
    exact = λ told w reading none.
        let f = so_far (Ok true) step told w reading none in
        let next = exactly (Ok true) step told w reading none in
        record {
          bodies = f.bodies ++ next.0.0 ∷ [];
          count = omega (arith, f.count, length-append f.bodies (next.0.0 ∷ []));
          reading = next.0.1;
          leads = λ last answer rest. f.leads last answer
              (subst (λ (n : ℕ). From g ((c0 number).now Recipes).read ((c0 number).now Journal) last old n (memory_of memory) t answer) (sym f.count)
              (next.1 last answer (subst (λ (n : ℕ). From g ((c0 number).now Recipes).read ((c0 number).now Journal) last new (n + 1) (memory_of after) u answer) f.count rest)));
        };
  }

  -- the end
  pub all_taken : StepAs (Ok false) → IsTrue (c0 number).told → (w : Where) → IsJournalReading start ((c0 number).now Journal) w → w.bodies ≡ []
      → AllRecordsAs g ((c0 number).now Recipes).read ((c0 number).now Journal) w start (memory_of first) t0 new (memory_of after) u (Ok records)
  all_taken step told w reading none =
      let f = so_far (Ok false) step told w reading none in
      let next = exactly (Ok false) step told w reading none in (
        (f.bodies, f.count, next.0),
        λ answer closes. f.leads (memory_of after) answer
            (subst (λ (n : ℕ). From g ((c0 number).now Recipes).read ((c0 number).now Journal) (memory_of after) old n (memory_of memory) t answer) (sym f.count)
            (next.1 answer (subst (λ (n : ℕ). Closes g (memory_of after) u n answer) (ap (λ (s : Start). number_behind s records) (sym along.start_is) ∙ ap (number_behind old.start) f.count) closes))),
      )

  -- an Err
  pub not_taken : (error : OpenErr) → StepAs (Err error) → IsTrue (c0 number).told → (w : Where) → IsJournalReading start ((c0 number).now Journal) w → w.bodies ≡ []
      → AllRecordsAs g ((c0 number).now Recipes).read ((c0 number).now Journal) w start (memory_of first) t0 new (memory_of after) u (Err error)
  not_taken Fault step told w reading none = tt
  not_taken (Damaged at byte) step told w reading none = λ last.
      let f = so_far (Err (Damaged at byte)) step told w reading none in
      f.leads last (Err (Damaged at byte))
      (subst (λ (n : ℕ). From g ((c0 number).now Recipes).read ((c0 number).now Journal) last old n (memory_of memory) t (Err (Damaged at byte))) (sym f.count)
      (exactly (Err (Damaged at byte)) step told w reading none last))
  not_taken (NotBegun len) step told w reading none = exactly (Err (NotBegun len)) step told w reading none
  not_taken (OtherStore found asked at) step told w reading none = exactly (Err (OtherStore found asked at)) step told w reading none

  pub counted_on : {T : Type 0} (result : Result T OpenErr) → IsCall c d number mid now → OnFault result (HasFailed (c number) (d number) mid now) (KeepsCounts (c number) (d number) mid now)
      → OnFault result (HasFailed (c0 number) (d number) before now) (KeepsCounts (c0 number) (d number) before now)
  counted_on result call counts = counted_behind result c0 c d number before mid now along.call along.counts counts

-- The steps so far, and what the buffer has of the area of recipes.
pub record Looking (c0 c : ℕ → Cloud) (number before now : ℕ) (g : Ground) (start journal : JournalState) (first memory : CloudMemory) (t0 t : Taking) (records : ℕ) (given buffer : List ℕ) (window : Window) : Type 0 where
  pub along : Along c0 c number before now g start journal first memory t0 t records (length given) (length buffer)
  pub shows : ShowsWindow (c number) window buffer
