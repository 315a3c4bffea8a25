use Rattle.std.proofs.Common.{◌≡◌}
use Rattle.replay_core.specs.Opening.{OpensClouds}
use Rattle.replay_core.proofs.opening.open_clouds.Given as goal

abbrev pub invariant-loop-number : goal.invariant-loop-number
invariant-loop-number g l = record {
  to : OpensClouds g.V.Shelf.cloud_at l.fn.link l.link l.number;
  same_reference : l.link.shelf.ghost_name ≡ l.fn.link.shelf.ghost_name;
}
