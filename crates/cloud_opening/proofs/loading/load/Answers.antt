use Rattle.std.proofs.Common.{◌≡◌, ℕ, sym, ◌∙◌, ap, subst}
use Rattle.cloud_disk.specs.CdEdges.area.Area.TheVariants.{Journal}
use Rattle.cloud_disk.specs.CdEdges.Disk.{Areas, reads}
use Rattle.cloud_disk.proofs.CdEdges.Calls.{called_twice}
use Rattle.cloud_disk.proofs.CdEdges.Moments.{told_on}
use Rattle.cloud_disk.specs.JournalStart.rooms.UserRooms.{UserRooms}
use Rattle.cloud_disk.specs.CommitJournal.States.{state_of, IsJournalReading}
use Rattle.record_laws.specs.RecordChecks.CloudMemory.Rooms.{memory_of, HasRooms}
use Rattle.record_laws.specs.RecordChecks.CloudMemory.Steps.{begun}
use Rattle.cloud_opening.specs.Exact.{ReplaysAll}
use Rattle.cloud_opening.specs.Roomy.{IsRoomy}
use Rattle.cloud_opening.specs.Steps.{HasChainEnded}
use Rattle.cloud_opening.proofs.Loaded.{region_is, loaded_as}
use Rattle.cloud_opening.proofs.Synced.{still, counted_behind, on_answer, on_ok}
use Rattle.cloud_opening.proofs.loading.load.Goals as goal

pub read_records-requires-clause-rooms : goal.read_records-requires-clause-rooms
read_records-requires-clause-rooms g c = subst (λ (r : UserRooms). HasRooms r c.clear.new.self) (sym c.in-Ok.ensures.known.1) (c.clear.ensures.rooms c.args.header.now.rooms c.requires.rooms)

pub read_records-requires-clause-begun : goal.read_records-requires-clause-begun
read_records-requires-clause-begun g c =
    c.clear.ensures.value ∙ ap (λ (n : ℕ). begun n c.region-region.result) (c.requires.rooms.users ∙ ap (λ (r : UserRooms). r.users) (sym c.in-Ok.ensures.known.1))
    ∙ ap (λ (n : ℕ). begun c.in-Ok.ground.rooms.users n) (sym c.in-Ok.ensures.known.2)

pub returns-in-Ok-clause-exact : goal.returns-in-Ok-clause-exact
returns-in-Ok-clause-exact g c told w reading none =
    let number = c.args.cloud.0 in let c0 = g.V.Shelf.cloud_at c.args.shelf.now number in let c1 = g.V.Shelf.cloud_at c.survey.new.shelf number in let state = state_of c.args.journal.now in
    let told1 = told_on c0 c1 c.survey.ensures.call.told told in let back : c1.now ≡ c0.now = c.survey.ensures.stays.now in
    let header = c.args.header.now in let ground = c.in-Ok.ground in let known = c.in-Ok.ensures.known in let lengths = c.in-Ok.ensures.lengths told in let new = memory_of c.read_records.new.memory in
    let region = region_is state (c0.now Journal) w c.region-region.result reading (λ small. c.region-region.ensures) in
    let before = subst (λ (a : Areas). IsJournalReading state (a Journal) w) (sym back) reading in
    on_answer c.read_records.result _ (ReplaysAll header w.half w.start (reads c0.now) new c.read_records.result)
    (loaded_as header c0 c1 state w reading none back ground new c.read_records.result known.0 known.1 (known.2 ∙ region) lengths.0 lengths.1)
    (c.read_records.ensures.exact told1 w before none)

pub returns-in-Ok-clause-ended : goal.returns-in-Ok-clause-ended
returns-in-Ok-clause-ended g c told w reading none =
    let number = c.args.cloud.0 in let c0 = g.V.Shelf.cloud_at c.args.shelf.now number in let c1 = g.V.Shelf.cloud_at c.survey.new.shelf number in let state = state_of c.args.journal.now in
    let told1 = told_on c0 c1 c.survey.ensures.call.told told in let back : c1.now ≡ c0.now = c.survey.ensures.stays.now in
    let before = subst (λ (a : Areas). IsJournalReading state (a Journal) w) (sym back) reading in
    on_ok c.read_records.result _ _ (subst (λ (a : Areas). HasChainEnded (state_of c.read_records.new.journal) (a Journal) w) back) (c.read_records.ensures.ended told1 w before none)

pub returns-in-Ok-clause-rooms : goal.returns-in-Ok-clause-rooms
returns-in-Ok-clause-rooms g c = subst (λ (r : UserRooms). HasRooms r c.read_records.new.memory) c.in-Ok.ensures.known.1 c.read_records.ensures.rooms

pub returns-in-Ok-clause-stays : goal.returns-in-Ok-clause-stays
returns-in-Ok-clause-stays g c = still _ _ _ c.survey.ensures.stays c.read_records.ensures.stays

pub returns-in-Ok-clause-call : goal.returns-in-Ok-clause-call
returns-in-Ok-clause-call g c = called_twice _ _ _ _ _ _ _ c.survey.ensures.call c.read_records.ensures.call

pub returns-in-Ok-clause-counts : goal.returns-in-Ok-clause-counts
returns-in-Ok-clause-counts g c =
    counted_behind c.read_records.result (g.V.Shelf.cloud_at c.args.shelf.now) (g.V.Shelf.cloud_at c.survey.new.shelf) (g.V.Shelf.cloud_at c.read_records.new.shelf) c.args.cloud.0 (g.V.Shelf.faults c.args.shelf.now) (g.V.Shelf.faults c.survey.new.shelf) (g.V.Shelf.faults c.read_records.new.shelf)
    c.survey.ensures.call c.in-Ok.ensures.uncounted c.read_records.ensures.counts

pub returns-in-Ok-clause-roomy : goal.returns-in-Ok-clause-roomy
returns-in-Ok-clause-roomy g c =
    let known = c.in-Ok.ensures.known in let m = memory_of c.read_records.new.memory in
    on_ok c.read_records.result _ _ (λ r.
    subst (λ (n : ℕ). IsRoomy c.args.header.now.rooms n m) (known.2 ∙ c.region-region.ensures)
    (subst (λ (rooms : UserRooms). IsRoomy rooms c.in-Ok.ground.region m) known.1 r)) c.read_records.ensures.roomy
