use Rattle.std.proofs.Common.{refl, sym, ◌∙◌, ap, subst}
use Rattle.cloud_disk.specs.CdEdges.area.Area.TheVariants.{Journal, Recipes}
use Rattle.cloud_disk.specs.JournalStart.start.Start.{Start}
use Rattle.cloud_disk.specs.CommitJournal.States.{JournalState, state_of}
use Rattle.record_laws.specs.RecordChecks.CloudMemory.Rooms.{memory_of}
use Rattle.cloud_opening.specs.Exact.{Closes, number_behind}
use Rattle.cloud_opening.specs.Steps.{HasChainEnded}
use Rattle.cloud_opening.proofs.Ended.{traced_begun, all_closed, all_ended, all_failed, restaged_end, unfailed_counts}
use Rattle.cloud_opening.proofs.Roomy.{roomy_closed}
use Rattle.cloud_opening.proofs.Synced.{always, of_all}
use Rattle.cloud_opening.proofs.loading.read_records.Goals as goal

pub finish-requires : goal.finish-requires
finish-requires g c =
    let number = c.args.cloud.0 in let c0 = g.V.Shelf.cloud_at c.args.shelf.now number in let store = c0.now Journal in let recipes = (c0.now Recipes).read in
    let ground = c.args.ground.now in let before = state_of c.args.journal.now in let mid = state_of c.take_all.new.journal in let m0 = memory_of c.args.memory.now in let m = memory_of c.take_all.new.memory in
    let t0 = c.new-taking.result in let u = c.take_all.new.taking in let users = ground.rooms.users in
    c.in-Ok.ensures.traced (traced_begun ground users m0 t0 c.requires.begun c.new-taking.ensures)

pub returns-in-Ok-clause-exact : goal.returns-in-Ok-clause-exact
returns-in-Ok-clause-exact g c told w reading none =
    let number = c.args.cloud.0 in let c0 = g.V.Shelf.cloud_at c.args.shelf.now number in let store = c0.now Journal in let recipes = (c0.now Recipes).read in
    let ground = c.args.ground.now in let before = state_of c.args.journal.now in let mid = state_of c.take_all.new.journal in let m0 = memory_of c.args.memory.now in let m = memory_of c.take_all.new.memory in
    let t0 = c.new-taking.result in let u = c.take_all.new.taking in let users = ground.rooms.users in
    let records = c.in-Ok.records in let all = c.in-Ok.ensures.exact told w reading none in
    let closes = subst (λ (s : Start). Closes ground m u (number_behind s records) c.finish.result) c.take_all.ensures.start c.finish.ensures.closes in
    of_all c.finish.result _ (all_closed ground recipes store w before m0 t0 users c.requires.begun c.new-taking.ensures mid m u records (number_behind before.start records) c.finish.result all refl closes)

pub returns-in-Ok-clause-fit : goal.returns-in-Ok-clause-fit
returns-in-Ok-clause-fit g c =
    always c.finish.result _ (c.in-Ok.ensures.traced (traced_begun c.args.ground.now c.args.ground.now.rooms.users (memory_of c.args.memory.now) c.new-taking.result c.requires.begun c.new-taking.ensures)).fit

pub returns-in-Ok-clause-ended : goal.returns-in-Ok-clause-ended
returns-in-Ok-clause-ended g c told w reading none =
    let number = c.args.cloud.0 in let c0 = g.V.Shelf.cloud_at c.args.shelf.now number in let store = c0.now Journal in let recipes = (c0.now Recipes).read in
    let ground = c.args.ground.now in let before = state_of c.args.journal.now in let mid = state_of c.take_all.new.journal in let m0 = memory_of c.args.memory.now in let m = memory_of c.take_all.new.memory in
    let t0 = c.new-taking.result in let u = c.take_all.new.taking in let users = ground.rooms.users in
    let records = c.in-Ok.records in let all = c.in-Ok.ensures.exact told w reading none in
    always c.finish.result _ (subst (λ (s : JournalState). HasChainEnded s store w) (sym c.finish.ensures.journal)
    (restaged_end mid _ store w (all_ended ground recipes store w before m0 t0 users c.requires.begun c.new-taking.ensures mid m u records all)))

pub returns-in-Ok-clause-counts : goal.returns-in-Ok-clause-counts
returns-in-Ok-clause-counts g c = unfailed_counts c.finish.result _ _ c.finish.ensures.unfailed c.in-Ok.ensures.counts

pub returns-in-Err-clause-exact : goal.returns-in-Err-clause-exact
returns-in-Err-clause-exact g c told w reading none =
    let number = c.args.cloud.0 in let c0 = g.V.Shelf.cloud_at c.args.shelf.now number in let store = c0.now Journal in let recipes = (c0.now Recipes).read in
    let ground = c.args.ground.now in let before = state_of c.args.journal.now in let mid = state_of c.take_all.new.journal in let m0 = memory_of c.args.memory.now in let m = memory_of c.take_all.new.memory in
    let t0 = c.new-taking.result in let u = c.take_all.new.taking in let users = ground.rooms.users in
    let error = c.in-Err.error in let all = c.in-Err.ensures.exact told w reading none in
    all_failed ground recipes store w before m0 t0 users c.requires.begun c.new-taking.ensures mid m u error m all

pub returns-in-Err-clause-ended : goal.returns-in-Err-clause-ended
returns-in-Err-clause-ended g c told w reading none = tt

pub returns-in-Ok-clause-roomy : goal.returns-in-Ok-clause-roomy
returns-in-Ok-clause-roomy g c =
    let ground = c.args.ground.now in
    let traced = c.in-Ok.ensures.traced (traced_begun ground ground.rooms.users (memory_of c.args.memory.now) c.new-taking.result c.requires.begun c.new-taking.ensures) in
    roomy_closed ground (memory_of c.take_all.new.memory) c.take_all.new.taking _ c.finish.result traced.spent c.finish.ensures.closes

pub returns-in-Ok-clause-start : goal.returns-in-Ok-clause-start
returns-in-Ok-clause-start g c = ap (λ (s : JournalState). s.start) c.finish.ensures.journal ∙ c.take_all.ensures.start
