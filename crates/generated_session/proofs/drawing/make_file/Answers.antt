use Rattle.std.proofs.Common.{sym, ◌∙◌}
use Rattle.generated_session.proofs.Files.{no_pieces, piece_more}
use Rattle.generated_session.proofs.drawing.make_file.Goals as goal

pub loop-piece-init : goal.loop-piece-init
loop-piece-init c = c.clear.ensures ∙ no_pieces c.args.seed c.args.version

pub loop-piece-preserved : goal.loop-piece-preserved
loop-piece-preserved c =
    piece_more c.args.seed c.loop-piece.piece c.args.version c.generation_of.result c.loop-piece.out c.put_piece.new.out c.generation_of.ensures c.loop-piece.invariant c.in_ok-put_piece.ensures
