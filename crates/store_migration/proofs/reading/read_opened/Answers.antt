use Rattle.std.proofs.Common.{sym, subst}
use Rattle.fresh_checkpoints.specs.CdEdges.area.Area.TheVariants.{Journal, Recipes}
use Rattle.fresh_checkpoints.specs.CdEdges.Disk.{Areas}
use Rattle.fresh_checkpoints.proofs.CdEdges.Calls.{called_twice}
use Rattle.fresh_checkpoints.proofs.CdEdges.Moments.{told_on}
use Rattle.cloud_opening.specs.CommitJournal.States.{state_of, IsJournalReading}
use Rattle.fresh_checkpoints.specs.CloudMemory.Rooms.{memory_of}
use Rattle.cloud_opening.specs.Steps.{HasChainEnded}
use Rattle.cloud_opening.proofs.Synced.{still, on_ok}
use Rattle.store_migration.specs.Steps.{LoadsAs}
use Rattle.store_migration.proofs.Cases.{counted_behind, not_memory}
use Rattle.store_migration.proofs.Loaded.{read_as, read_all}
use Rattle.store_migration.proofs.reading.read_opened.Goals as goal

pub returns-in-Ok-clause-exact : goal.returns-in-Ok-clause-exact
returns-in-Ok-clause-exact g c told opened =
    let number = c.args.cloud.0 in let c0 = g.V.Shelf.cloud_at c.args.shelf.now number in let c1 = g.V.Shelf.cloud_at c.survey.new.shelf number in let state = state_of c.args.journal.now in
    let told1 = told_on c0 c1 c.survey.ensures.call.told told in let back = c.survey.ensures.stays.now in
    let ground = c.in-Ok.ground in let known = c.in-Ok.ensures.known in let lengths = c.in-Ok.ensures.lengths told in let new = memory_of c.load.new.memory in
    let before = subst (λ (a : Areas). IsJournalReading state (a Journal) opened.0.w) (sym back) opened.0.reading in
    let loaded = subst (λ (a : Areas). LoadsAs ground c.args.half (a Recipes).read (a Journal) state new c.load.result) back (c.load.ensures.exact told1 opened.0.w before opened.0.none) in
    read_as c.args.shape c.args.cloud c0 state opened.0 c.args.half opened.1 ground known.0 known.1 known.2 lengths.0 lengths.1 new c.load.result loaded

pub returns-in-Ok-clause-read : goal.returns-in-Ok-clause-read
returns-in-Ok-clause-read g c told opened =
    let number = c.args.cloud.0 in let c0 = g.V.Shelf.cloud_at c.args.shelf.now number in let c1 = g.V.Shelf.cloud_at c.survey.new.shelf number in let state = state_of c.args.journal.now in
    let told1 = told_on c0 c1 c.survey.ensures.call.told told in let back = c.survey.ensures.stays.now in
    let ground = c.in-Ok.ground in let known = c.in-Ok.ensures.known in let lengths = c.in-Ok.ensures.lengths told in let new = memory_of c.load.new.memory in let after = state_of c.load.new.journal in
    let before = subst (λ (a : Areas). IsJournalReading state (a Journal) opened.0.w) (sym back) opened.0.reading in
    let loaded = subst (λ (a : Areas). LoadsAs ground c.args.half (a Recipes).read (a Journal) state new c.load.result) back (c.load.ensures.exact told1 opened.0.w before opened.0.none) in
    let ended = on_ok c.load.result _ _ (subst (λ (a : Areas). HasChainEnded after (a Journal) opened.0.w) back) (c.load.ensures.ended told1 opened.0.w before opened.0.none) in
    read_all c.args.shape c.args.cloud c0 state opened.0 c.args.half opened.1 ground known.0 known.1 known.2 lengths.0 lengths.1 new after c.load.result loaded ended

pub returns-in-Ok-clause-memory : goal.returns-in-Ok-clause-memory
returns-in-Ok-clause-memory g c = not_memory c.load.result c.load.ensures.kind

pub returns-in-Ok-clause-stays : goal.returns-in-Ok-clause-stays
returns-in-Ok-clause-stays g c = still _ _ _ c.survey.ensures.stays c.load.ensures.stays

pub returns-in-Ok-clause-call : goal.returns-in-Ok-clause-call
returns-in-Ok-clause-call g c = called_twice _ _ _ _ _ _ _ c.survey.ensures.call c.load.ensures.call

pub returns-in-Ok-clause-counts : goal.returns-in-Ok-clause-counts
returns-in-Ok-clause-counts g c =
    counted_behind c.load.result (g.V.Shelf.cloud_at c.args.shelf.now) (g.V.Shelf.cloud_at c.survey.new.shelf) (g.V.Shelf.cloud_at c.load.new.shelf) c.args.cloud.0 (g.V.Shelf.faults c.args.shelf.now) (g.V.Shelf.faults c.survey.new.shelf) (g.V.Shelf.faults c.load.new.shelf)
    c.survey.ensures.call c.in-Ok.ensures.uncounted c.load.ensures.counts
