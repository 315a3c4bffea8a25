use Rattle.std.proofs.Common.{length, ◌≡◌}
use Rattle.rabin_chunker.proofs.Feeding.{IsFed, fed_by}
use Rattle.rabin_chunker.proofs.pieces.cut_pieces.Given as goal

abbrev pub invariant-loop-piece : goal.invariant-loop-piece
invariant-loop-piece l = (l.had ≡ length l.fn.cuts) × IsFed l.chunker l.fn.cuts l.cuts (fed_by l.pieces l.piece-index)
