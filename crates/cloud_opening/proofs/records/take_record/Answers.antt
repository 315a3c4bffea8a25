use Rattle.std.proofs.Common.{Ok, Err}
use Rattle.cloud_disk.specs.CdEdges.area.Area.TheVariants.{Recipes}
use Rattle.cloud_disk.specs.CommitJournal.States.{state_of}
use Rattle.record_laws.specs.RecordChecks.CloudMemory.Rooms.{memory_of}
use Rattle.cloud_opening.proofs.Reading.{by_recipe, by_nothing}
use Rattle.cloud_opening.proofs.records.take_record.Goals as goal

pub returns-in-Ok-clause-judged : goal.returns-in-Ok-clause-judged
returns-in-Ok-clause-judged g c told =
    let recipes = ((g.V.Shelf.cloud_at c.args.shelf.now c.args.judging.now.cloud.0).now Recipes).read in let journal = state_of c.args.journal.now in
    by_recipe c.args.judging.now.ground.now c.args.judging.now.inside recipes (memory_of c.args.memory.now) c.args.taking.now journal.current.body_at journal.current.body (memory_of c.take_read.new.memory) c.take_read.new.taking (Ok tt)
    c.in-Some.place c.body.result.now c.body.ensures c.in-Some.ensures.asks (c.in-Ok.ensures.judged told)

pub returns-in-Err-clause-judged : goal.returns-in-Err-clause-judged
returns-in-Err-clause-judged g c told =
    let recipes = ((g.V.Shelf.cloud_at c.args.shelf.now c.args.judging.now.cloud.0).now Recipes).read in let journal = state_of c.args.journal.now in
    by_recipe c.args.judging.now.ground.now c.args.judging.now.inside recipes (memory_of c.args.memory.now) c.args.taking.now journal.current.body_at journal.current.body (memory_of c.take_read.new.memory) c.take_read.new.taking (Err c.in-Err.error)
    c.in-Some.place c.body.result.now c.body.ensures c.in-Some.ensures.asks (c.in-Err.ensures.judged told)

pub returns-in-None-clause-judged : goal.returns-in-None-clause-judged
returns-in-None-clause-judged g c told =
    let recipes = ((g.V.Shelf.cloud_at c.args.shelf.now c.args.judging.now.cloud.0).now Recipes).read in let journal = state_of c.args.journal.now in
    by_nothing c.args.judging.now.ground.now c.args.judging.now.inside recipes (memory_of c.args.memory.now) c.args.taking.now journal.current.body_at journal.current.body (memory_of c.take_body.new.memory) c.take_body.new.taking c.take_body.result
    c.body.result.now c.body.ensures c.in-None.ensures.asks c.take_body.ensures.judged
