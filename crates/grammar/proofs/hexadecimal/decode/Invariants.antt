use Rattle.std.proofs.Common.{◌≡◌, length}
use Rattle.grammar.specs.Hexadecimal.{unhex}
use Rattle.grammar.proofs.WordLaws.{prepend}
use Rattle.grammar.proofs.hexadecimal.decode.Given as goal

abbrev pub invariant-loop-rest : goal.invariant-loop-rest
invariant-loop-rest l = prepend l.bytes (unhex l.rest) ≡ unhex l.text

abbrev pub decreases-loop-rest : goal.decreases-loop-rest
decreases-loop-rest l = length l.rest
