use Rattle.cd_edges.specs.declared.area.Area.TheVariants.{Journal}
use Rattle.journal_halves.specs.States.{state_of}
use Rattle.journal_halves.proofs.Reading.{rest_at, rest_short, next_is, step_from}
use Rattle.journal_halves.proofs.records.HalfRecords.next.Goals as goal

pub returns-in-Ok-clause-reads : goal.returns-in-Ok-clause-reads
returns-in-Ok-clause-reads g c told bodies reading =
    let store = (g.V.Shelf.cloud_at c.args.shelf.now c.args.cloud.0).now Journal in
    let old = state_of c.args.self.now in let mid = state_of c.look.new.self in let new = state_of c.take.new.self in
    let ahead = c.in-Ok.ensures.ahead told reading.rest (rest_at old store bodies reading) reading.ahead in
    next_is old mid new store bodies reading c.look.ensures.rest.0 c.look.ensures.rest.1 c.take.result (c.take.ensures.taken reading.rest ahead.0 ahead.1 reading.more (rest_short old store bodies reading))

pub returns-in-Ok-clause-step : goal.returns-in-Ok-clause-step
returns-in-Ok-clause-step g c =
    step_from (state_of c.args.self.now) (state_of c.look.new.self) (state_of c.take.new.self) c.take.result c.look.ensures.rest.0 c.look.ensures.rest.1 c.take.ensures.step
