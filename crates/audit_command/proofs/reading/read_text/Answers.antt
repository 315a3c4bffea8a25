use Rattle.std.proofs.Common.{ℕ, List, ◌-◌, ◌++◌, take, sym, ap, ◌∙◌, arith}
use Rattle.std.specs.Prelude.{slice_get}
use Rattle.std.proofs.lemmas.Option.{slice_get-get_or}
use Rattle.audit_command.specs.Source.{mark_behind}
use Rattle.audit_command.proofs.Counting.{too_many}
use Rattle.audit_command.proofs.reading.read_text.Goals as goal

pub returns-then-room-count : goal.returns-then-room-count
returns-then-room-count g c =
    let text = c.pieces.text in
    let piece = c.read.new.out in
    let len = c.len-room.ensures in
    record {
      reads = too_many (g.S.Source.left c.args.source.now) (g.S.Source.left c.pieces.source) (g.S.Source.left c.read.new.self) text piece
          c.in-Ok.count c.mark_of-line.result _ _ _ c.pieces.invariant.consumed c.in-Ok.ensures.bytes.0 c.pieces.invariant.few
          (omega (arith, c.if-room-count.true, len)) c.in-Ok.ensures.bound.0
          (c.mark_of-line.ensures
          ∙ ap (λ (t : List ℕ). mark_behind (1, 0) (t ++ take (134217728 - c.len-room.result) piece)) c.as_slice.ensures
          ∙ ap (λ (n : ℕ). mark_behind (1, 0) (text ++ take (134217728 - n) piece)) len)
          (ap (λ (n : ℕ). slice_get piece (134217728 - n)) (sym len)
          ∙ slice_get-get_or piece (134217728 - c.len-room.result) 0 (omega (arith, c.if-room-count.true, c.in-Ok.ensures.bound.0)))
          (c.in-Ok.ensures.cause.still ∙ c.pieces.invariant.still);
    }
