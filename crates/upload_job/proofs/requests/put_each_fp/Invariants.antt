use Rattle.std.proofs.Common.{◌≡◌, ◌++◌, take}
use Rattle.std.specs.List.{flat_map}
use Rattle.upload_job.proofs.requests.put_each_fp.Given as goal

abbrev pub invariant-loop-w : goal.invariant-loop-w
invariant-loop-w l = l.out ≡ l.fn.out ++ flat_map (λ w. w.fp.0) (take l.w-index l.wanted)
