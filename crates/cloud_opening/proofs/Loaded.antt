-- A journal that is read up to its start, over the areas of a cloud.
use Rattle.std.proofs.Common.{◌≡◌, ℕ, ◌+◌, ◌*◌, ◌≤◌, List, [], ◌∷◌, length, drop, Result, ◌∙◌, ap, subst, arith, length-append}
use Rattle.cloud_disk.specs.CdEdges.area.Area.TheVariants.{Journal, Shares, Recipes}
use Rattle.cloud_disk.specs.CdEdges.Disk.{Store, Areas, Cloud, reads}
use Rattle.cloud_disk.specs.JournalHalves.Records.{chain}
use Rattle.cloud_disk.specs.JournalStart.start.Header.{Header}
use Rattle.cloud_disk.specs.JournalStart.start.Start.{Start}
use Rattle.cloud_disk.specs.JournalStart.Spelling.{start_bytes, region_of}
use Rattle.cloud_disk.specs.JournalHalves.Halves.{half_len}
use Rattle.cloud_disk.specs.JournalHalves.Journals.{Where}
use Rattle.cloud_disk.specs.JournalHalves.Findings.{part_of}
use Rattle.cloud_disk.specs.CommitJournal.errors.OpenErr.{OpenErr}
use Rattle.cloud_disk.specs.CommitJournal.States.{JournalState, IsJournalReading}
use Rattle.record_laws.specs.RecordChecks.CloudMemory.Memory.{Memory}
use Rattle.record_laws.specs.RecordChecks.CloudMemory.Steps.{begun}
use Rattle.record_laws.specs.RecordChecks.ground.Ground.{Ground}
use Rattle.record_laws.specs.RecordChecks.Noting.{nothing_noted}
use Rattle.cloud_opening.specs.Exact.{Replays, ReplaysAll, ground_of}
use Rattle.cloud_opening.specs.Steps.{From}
use Rattle.cloud_opening.proofs.Current.{region_small}

-- the gate behind the start
pub gate_behind : (state : JournalState) (store : Store) (w : Where) → IsJournalReading state store w → w.bodies ≡ [] → state.current.gate ≡ length (start_bytes w.start) + 5
gate_behind state store w reading none =
    let gate : state.current.gate ≡ length (chain (start_bytes w.start ∷ [])) = reading.read.gate ∙ ap (λ (l : List (List ℕ)). length (chain (start_bytes w.start ∷ l))) none in
    omega (arith, gate, length-append (start_bytes w.start) [])

pub region_is : (state : JournalState) (store : Store) (w : Where) (region : ℕ) → IsJournalReading state store w → (region_of state.start.checkpoint ≤ 1 → region ≡ region_of state.start.checkpoint) → region ≡ region_of w.start.checkpoint
region_is state store w region reading value =
    let small = region_small w.half w.start.header.format w.start.checkpoint reading.is_current.begun.is_start.behind in
    let same = ap (λ (s : Start). region_of s.checkpoint) reading.start in
    value (omega (arith, small, same)) ∙ same

module _ (header : Header) (c0 c1 : Cloud) (state : JournalState) (w : Where) (reading : IsJournalReading state (c0.now Journal) w) (none : w.bodies ≡ []) (now : c1.now ≡ c0.now) where
  pub loaded_as : (g : Ground) (new : Memory) (answer : Result ℕ OpenErr) → g.shape ≡ header.shape → g.rooms ≡ header.rooms → g.region ≡ region_of w.start.checkpoint
      → g.shares_len ≡ length (c0.now Shares).read → g.recipes_len ≡ length (c0.now Recipes).read
      → From g (c1.now Recipes).read (c1.now Journal) new state 0 (begun g.rooms.users g.region) nothing_noted answer → ReplaysAll header w.half w.start (reads c0.now) new answer
  loaded_as g new answer shape rooms region shares recipes from =
      let is : g ≡ ground_of header w.start (reads c0.now) = λ i. record { shape = shape i; rooms = rooms i; region = region i; shares_len = shares i; recipes_len = recipes i } in
      let gate = gate_behind state (c0.now Journal) w reading none in
      let here = subst (λ (a : Areas). From g (a Recipes).read (a Journal) new state 0 (begun g.rooms.users g.region) nothing_noted answer) now from in
      let there = subst (λ (k : Ground). From k (c0.now Recipes).read (c0.now Journal) new state 0 (begun k.rooms.users k.region) nothing_noted answer) is here in
      let f = ground_of header w.start (reads c0.now) in let m0 = begun header.rooms.users (region_of w.start.checkpoint) in let bytes = (c0.now Recipes).read in let journal = (c0.now Journal).read in
      let at_half = subst (λ (h : ℕ). Replays f h state.start bytes new (drop state.current.gate (part_of h journal)) (h * half_len + state.current.gate) 0 m0 nothing_noted answer) reading.half there in
      let at_start = subst (λ (s : Start). Replays f w.half s bytes new (drop state.current.gate (part_of w.half journal)) (w.half * half_len + state.current.gate) 0 m0 nothing_noted answer) reading.start at_half in
      subst (λ (n : ℕ). Replays f w.half w.start bytes new (drop n (part_of w.half journal)) (w.half * half_len + n) 0 m0 nothing_noted answer) gate at_start
