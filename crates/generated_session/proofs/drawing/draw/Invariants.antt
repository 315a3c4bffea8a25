use Rattle.std.proofs.Common.{◌≡◌, ◌-◌, ◌++◌, take, length}
use Rattle.generated_session.specs.Drawn.{drawn}
use Rattle.generated_session.proofs.drawing.draw.Given as goal

abbrev pub invariant-loop-byte : goal.invariant-loop-byte
invariant-loop-byte l = take l.byte-index l.out ++ drawn l.state (length l.out - l.byte-index) ≡ drawn l.from (length l.out)
