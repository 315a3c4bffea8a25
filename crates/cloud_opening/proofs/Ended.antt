-- All records of a journal, into a memory of no commands.
use Rattle.std.proofs.Common.{◌≡◌, ℕ, List, Result, Ok, Err, sym, ap, subst}
use Rattle.cloud_disk.specs.CdEdges.Disk.{Store}
use Rattle.cloud_disk.specs.JournalHalves.Journals.{Where}
use Rattle.cloud_disk.specs.CommitJournal.errors.OpenErr.{OpenErr}
use Rattle.cloud_disk.specs.CommitJournal.errors.OpenErr.TheVariants.{Fault, NotBegun, Damaged, OtherStore}
use Rattle.cloud_disk.specs.CommitJournal.journal.Stage.{Stage}
use Rattle.cloud_disk.specs.CommitJournal.Openings.{OnFault}
use Rattle.cloud_disk.specs.CommitJournal.States.{JournalState}
use Rattle.record_laws.specs.RecordChecks.CloudMemory.Fitting.{FitsRecords}
use Rattle.record_laws.specs.RecordChecks.CloudMemory.Memory.{Memory}
use Rattle.record_laws.specs.RecordChecks.CloudMemory.Steps.{begun}
use Rattle.record_laws.proofs.RecordChecks.MemoryProofs.Fitting.{begun_fits}
use Rattle.record_laws.specs.RecordChecks.ground.Ground.{Ground}
use Rattle.record_laws.specs.RecordChecks.taking.Taking.{Taking}
use Rattle.record_laws.specs.RecordChecks.Noting.{nothing_noted}
use Rattle.cloud_opening.specs.Exact.{Closes, number_behind}
use Rattle.cloud_opening.specs.Roomy.{SpendWithin}
use Rattle.cloud_opening.specs.Steps.{IsTraced, From, AllRecordsAs, HasChainEnded}
use Rattle.cloud_opening.proofs.Roomy.{begun_within}

pub traced_begun : (g : Ground) (users : ℕ) (m : Memory) (t : Taking) → m ≡ begun users g.region → t ≡ nothing_noted → IsTraced g m t
traced_begun g users m t same none = record {
  shares = λ e. ap (λ (x : Memory). x.shares_end) same;
  recipes = λ e. ap (λ (x : Memory). x.recipes_end) same;
  fit = subst FitsRecords (sym same) (begun_fits users g.region);
  spent = subst (λ (x : Memory). SpendWithin g.rooms x.spent) (sym same) (begun_within g.rooms users);
}

module _ (g : Ground) (recipes : List ℕ) (store : Store) (w : Where) (before : JournalState) (m0 : Memory) (t0 : Taking) (users : ℕ) (same : m0 ≡ begun users g.region) (none : t0 ≡ nothing_noted)
    (after : JournalState) (mid : Memory) (u : Taking) where
  from_begun : (new : Memory) (answer : Result ℕ OpenErr) → From g recipes store new before 0 m0 t0 answer → From g recipes store new before 0 (begun users g.region) nothing_noted answer
  from_begun new answer from =
      subst (λ (t : Taking). From g recipes store new before 0 (begun users g.region) t answer) none (subst (λ (m : Memory). From g recipes store new before 0 m t0 answer) same from)

  pub all_closed : (records number : ℕ) (answer : Result ℕ OpenErr) → AllRecordsAs g recipes store w before m0 t0 after mid u (Ok records) → number ≡ number_behind before.start records → Closes g mid u number answer
      → From g recipes store mid before 0 (begun users g.region) nothing_noted answer
  all_closed records number answer all is closes = from_begun mid answer (all.1 answer (subst (λ (n : ℕ). Closes g mid u n answer) is closes))

  pub all_ended : (records : ℕ) → AllRecordsAs g recipes store w before m0 t0 after mid u (Ok records) → HasChainEnded after store w
  all_ended records all = record { bodies = all.0.0; ended = all.0.2 }

  pub all_failed : (error : OpenErr) (new : Memory) → AllRecordsAs g recipes store w before m0 t0 after mid u (Err error)
      → OnFault {T = ℕ} (Err error) (Unit {0}) (From g recipes store new before 0 (begun users g.region) nothing_noted (Err error))
  all_failed Fault new all = tt
  all_failed (Damaged at byte) new all = from_begun new (Err (Damaged at byte)) (all new)
  all_failed (NotBegun len) new all = absurd all
  all_failed (OtherStore found asked at) new all = absurd all

-- the same of another stage
pub restaged_end : (state : JournalState) (stage : Stage) (store : Store) (w : Where) → HasChainEnded state store w → HasChainEnded (record state { stage = stage }) store w
restaged_end state stage store w h = let e = h.ended in record { bodies = h.bodies; ended = record { half = e.half; start = e.start; is_current = e.is_current; read = e.read; full = e.full } }

-- an answer that isn't a failed call's
pub unfailed_counts : {T : Type 0} (result : Result T OpenErr) (failed counts : Type 0) → OnFault result ⊥ (Unit {0}) → counts → OnFault result failed counts
unfailed_counts (Ok value) failed counts is holds = holds
unfailed_counts (Err Fault) failed counts is holds = absurd is
unfailed_counts (Err (Damaged at byte)) failed counts is holds = holds
unfailed_counts (Err (NotBegun len)) failed counts is holds = holds
unfailed_counts (Err (OtherStore found asked at)) failed counts is holds = holds
