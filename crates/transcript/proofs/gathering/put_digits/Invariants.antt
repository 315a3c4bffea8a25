use Rattle.std.proofs.Common.{length}
use Rattle.grammar.specs.Hexadecimal.{hex}
use Rattle.transcript.proofs.Written.{Follows}
use Rattle.transcript.proofs.gathering.put_digits.Given as goal

abbrev pub invariant-loop-rest : goal.invariant-loop-rest
invariant-loop-rest g l =
    Follows (hex l.bytes) (hex l.rest) (g.K.Sink.written l.fn.sink) (g.K.Sink.written l.sink) (g.K.Sink.faults l.fn.sink) (g.K.Sink.faults l.sink)

abbrev pub decreases-loop-rest : goal.decreases-loop-rest
decreases-loop-rest g l = length l.rest
