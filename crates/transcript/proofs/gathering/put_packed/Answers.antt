use Rattle.std.proofs.Common.{List, ℕ, [], ◌∷◌, sym, subst}
use Rattle.grammar.specs.Hexadecimal.{hex}
use Rattle.transcript.specs.Writing.{HasWrittenText}
use Rattle.transcript.proofs.Written.{writes_join, packed_by}
use Rattle.transcript.proofs.gathering.put_packed.Goals as goal

pub returns-in-Ok : goal.returns-in-Ok
returns-in-Ok g c =
    subst (λ (l : List ℕ). HasWrittenText l (g.K.Sink.written c.args.sink.now) (g.K.Sink.written c.put.new.sink) (g.K.Sink.faults c.args.sink.now) (g.K.Sink.faults c.put.new.sink) c.put.result)
    (sym (packed_by c.args.file.now c.is_empty.result c.is_empty.ensures c.if-is_empty.false))
    (writes_join (hex c.args.file.now) (10 ∷ []) (g.K.Sink.written c.args.sink.now) (g.K.Sink.written c.put_digits.new.sink) (g.K.Sink.written c.put.new.sink)
    (g.K.Sink.faults c.args.sink.now) (g.K.Sink.faults c.put_digits.new.sink) (g.K.Sink.faults c.put.new.sink) c.put.result c.in-Ok.ensures c.put.ensures)
