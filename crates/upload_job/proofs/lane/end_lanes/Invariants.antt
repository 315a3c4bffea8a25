use Rattle.std.proofs.Common.{◌≡◌, ◌<◌, length, drop}
use Rattle.std.specs.Prelude.{All}
use Rattle.user_dedup.specs.CdBase.Numbers.{numbers_of}
use Rattle.upload_job.specs.Index.{done_at}
use Rattle.upload_job.proofs.lane.end_lanes.Given as goal

abbrev pub invariant-loop-cloud : goal.invariant-loop-cloud
invariant-loop-cloud l =
    record {
      ended : done_at l.lanes.items (numbers_of (drop l.cloud-index l.clouds)) ≡ done_at l.fn.lanes.items (numbers_of l.clouds);
      below : All (λ cloud. cloud < length l.lanes.items) (numbers_of (drop l.cloud-index l.clouds));
    }
