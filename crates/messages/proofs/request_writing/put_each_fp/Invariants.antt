use Rattle.std.proofs.Common.{◌≡◌, ◌++◌, take}
use Rattle.std.specs.List.{flat_map}
use Rattle.messages.proofs.request_writing.put_each_fp.Given as goal

abbrev pub invariant-loop-fp : goal.invariant-loop-fp
invariant-loop-fp l = l.out ≡ l.fn.out ++ flat_map (λ fp. fp.0) (take l.fp-index l.fps)
