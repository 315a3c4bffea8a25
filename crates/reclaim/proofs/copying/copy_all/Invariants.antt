use Rattle.reclaim.proofs.Going.{SoFar, left_of}
use Rattle.reclaim.proofs.copying.copy_all.Given as goal

abbrev pub invariant-steps : goal.invariant-steps
invariant-steps g l = SoFar l.fn.server.store l.server.store l.fn.server.copies l.server.copies (g.V.Shelf.cloud_at l.fn.shelf) (g.V.Shelf.cloud_at l.shelf) (g.V.Shelf.faults l.fn.shelf) (g.V.Shelf.faults l.shelf)

abbrev pub decreases-steps : goal.decreases-steps
decreases-steps g l = left_of l.server.store l.server.copies
