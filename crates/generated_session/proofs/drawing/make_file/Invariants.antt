use Rattle.std.proofs.Common.{◌≡◌}
use Rattle.generated_session.specs.Drawn.{file_of}
use Rattle.generated_session.proofs.drawing.make_file.Given as goal

abbrev pub invariant-loop-piece : goal.invariant-loop-piece
invariant-loop-piece l = l.out ≡ file_of l.seed l.piece l.version
