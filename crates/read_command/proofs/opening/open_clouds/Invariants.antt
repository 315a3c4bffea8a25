use Rattle.std.proofs.Common.{length}
use Rattle.commit_journal.specs.CdBase.Numbers.{numbers_of}
use Rattle.read_command.proofs.Row.{SoFar}
use Rattle.read_command.proofs.opening.open_clouds.Given as goal

abbrev pub invariant-clouds : goal.invariant-clouds
invariant-clouds g l =
    SoFar g.V.Shelf.cloud_at (numbers_of l.clouds) (numbers_of l.rest) (g.V.Shelf.faults l.fn.link.shelf.now) (g.V.Shelf.faults l.link.shelf.now) l.fn.link l.link

abbrev pub decreases-clouds : goal.decreases-clouds
decreases-clouds g l = length l.rest
