use Rattle.std.proofs.Common.{◌≡◌, ◌++◌, take}
use Rattle.std.specs.List.{flat_map}
use Rattle.user_dedup.specs.MessageFields.Shares.{share_bytes}
use Rattle.upload_job.specs.Lane.{unflagged}
use Rattle.upload_job.specs.Index.{shares_in}
use Rattle.upload_job.proofs.requests.put_unflagged.Given as goal

abbrev pub invariant-loop-i : goal.invariant-loop-i
invariant-loop-i l = l.out ≡ l.fn.out ++ flat_map share_bytes (unflagged (take l.i (shares_in l.shares l.batch)) (take l.i l.flags))
