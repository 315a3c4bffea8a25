use Rattle.std.proofs.Common.{◌≡◌}
use Rattle.std.specs.List.{range_with_len}
use Rattle.lane_steps.specs.Reached.{IsReached}
use Rattle.replay_core.specs.ScriptLines.At.{KeepsOtherClouds}
use Rattle.generated_session.specs.Progress.{GrowsByLanes, BringsLanes}
use Rattle.generated_session.proofs.carrying.finish_lanes.Given as goal

abbrev pub invariant-loop-lane : goal.invariant-loop-lane
invariant-loop-lane g l = record {
  does : BringsLanes g.V.Shelf.cloud_at (λ s. range_with_len 0 l.lane) l.initial.link l.initial.job l.link l.job l.initial.numbers l.numbers;
  grows : GrowsByLanes l.lane l.initial.numbers l.numbers;
  leaves : KeepsOtherClouds g.V.Shelf.cloud_at l.initial.link l.link;
  reached : IsReached l.initial.link.servers.shape l.job;
  same_reference : l.link.shelf.ghost_name ≡ l.initial.link.shelf.ghost_name;
}
