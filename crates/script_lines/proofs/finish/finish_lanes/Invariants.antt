use Rattle.std.proofs.Common.{◌≡◌, length}
use Rattle.std.specs.List.{range_with_len}
use Rattle.script_lines.specs.At.{KeepsOtherClouds}
use Rattle.script_lines.specs.Jobs.{AreReached}
use Rattle.script_lines.specs.Finishing.{FinishesLanes}
use Rattle.script_lines.proofs.finish.finish_lanes.Given as goal

abbrev pub invariant-loop-lane : goal.invariant-loop-lane
invariant-loop-lane g l = record {
  does : FinishesLanes g.V.Shelf.cloud_at l.job (λ s. range_with_len 0 l.lane) l.initial.link l.initial.jobs l.link l.jobs l.initial.text l.text;
  leaves : KeepsOtherClouds g.V.Shelf.cloud_at l.initial.link l.link;
  reached : AreReached l.initial.link.servers.shape l.jobs;
  count : length l.jobs ≡ length l.initial.jobs;
  same_reference : l.link.shelf.ghost_name ≡ l.initial.link.shelf.ghost_name;
}
