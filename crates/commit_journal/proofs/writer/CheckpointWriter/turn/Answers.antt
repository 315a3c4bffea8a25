use Rattle.journal_halves.specs.CdEdges.area.Area.TheVariants.{Journal}
use Rattle.commit_journal.specs.Turning.{state_of}
use Rattle.commit_journal.proofs.Calls.{begun_laying}
use Rattle.commit_journal.proofs.writer.CheckpointWriter.turn.Goals as goal

pub returns-clause-turned : goal.returns-clause-turned
returns-clause-turned g c told w stands follows =
    let closed = c.in_ok-close.ensures.closed told w stands follows.other in
    begun_laying (state_of c.begin.new.self) ((g.V.Shelf.cloud_at c.close.new.shelf c.args.cloud.0).now Journal) w c.args.half c.args.start.now c.begin.ensures closed.0 closed.1 follows
