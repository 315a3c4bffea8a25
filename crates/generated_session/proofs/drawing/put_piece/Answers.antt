use Rattle.std.proofs.Common.{List, ℕ, ◌++◌, ap, ◌∙◌}
use Rattle.generated_session.proofs.Files.{on_ok, piece_made}
use Rattle.generated_session.proofs.drawing.put_piece.Goals as goal

pub returns : goal.returns
returns c = on_ok c.extend-6.result _ _ (λ last.
    piece_made c.args.seed c.args.piece c.args.generation c.beginning.result c.args.out.now c.extend.new.self c.extend-2.new.self c.extend-3.new.self c.extend-4.new.self c.extend-5.new.self
    c.extend-6.new.self c.draw.new.out c.beginning.ensures c.draw.ensures
    (c.in_ok-extend.ensures.ok ∙ ap (λ (l : List ℕ). c.args.out.now ++ l) c.to_be_bytes.ensures)
    (c.in_ok-extend-2.ensures.ok ∙ ap (λ (l : List ℕ). c.extend.new.self ++ l) c.to_be_bytes-2.ensures)
    (c.in_ok-extend-3.ensures.ok ∙ ap (λ (l : List ℕ). c.extend-2.new.self ++ l) c.to_be_bytes-3.ensures)
    c.in_ok-extend-4.ensures.ok c.in_ok-extend-5.ensures.ok last) c.extend-6.ensures.ok
