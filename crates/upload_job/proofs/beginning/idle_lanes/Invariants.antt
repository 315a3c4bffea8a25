use Rattle.std.proofs.Common.{◌≡◌, length}
use Rattle.std.specs.Prelude.{All}
use Rattle.upload_job.specs.Index.{IsIdle}
use Rattle.upload_job.proofs.beginning.idle_lanes.Given as goal

abbrev pub invariant-loop : goal.invariant-loop
invariant-loop l = record { len : length l.lanes.items ≡ l.counter; each : All IsIdle l.lanes.items }
