use Rattle.std.proofs.Common.{ℕ, ◌<◌}
use Rattle.replay_core.specs.Opening.{AreSame, IsEmpty}
use Rattle.replay_core.proofs.opening.empty_clouds.Given as goal

abbrev pub invariant-loop-number : goal.invariant-loop-number
invariant-loop-number g l = record {
  same : AreSame (g.V.Shelf.cloud_at l.fn.shelf) (g.V.Shelf.cloud_at l.shelf);
  empty : (cloud : ℕ) → cloud < l.number → IsEmpty (g.V.Shelf.cloud_at l.fn.shelf cloud);
}
