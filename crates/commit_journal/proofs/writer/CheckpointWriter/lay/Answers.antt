use Rattle.std.proofs.Common.{arith}
use Rattle.journal_halves.specs.CdEdges.area.Area.TheVariants.{Journal}
use Rattle.commit_journal.specs.Turning.{state_of}
use Rattle.commit_journal.proofs.Calls.{one_more}
use Rattle.commit_journal.proofs.writer.CheckpointWriter.lay.Goals as goal

pub returns-clause-laid : goal.returns-clause-laid
returns-clause-laid g c told w next laying =
    one_more (state_of c.make_room.new.self) (state_of c.add.new.self) ((g.V.Shelf.cloud_at c.make_room.new.shelf c.args.cloud.0).now Journal) w next c.args.body.now
    (c.in_ok-make_room.ensures.still told w next laying) (record { some = c.requires.some; few = c.requires.few }) (omega (arith, c.requires.to_come, c.make_room.ensures.left)) c.add.ensures
