use Rattle.std.proofs.Common.{◌≡◌, length}
use Rattle.upload_job.specs.Index.{EachBegun}
use Rattle.upload_job.proofs.beginning.lanes_of.Given as goal

abbrev pub invariant-loop-file : goal.invariant-loop-file
invariant-loop-file l = record { len : length l.lanes.items ≡ length l.yielded; each : EachBegun l.shape.k l.fn.files.items l.lanes.items }
