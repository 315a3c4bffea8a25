use Rattle.std.proofs.Common.{List, ℕ, subst}
use Rattle.transcript.specs.Packed.{packed_text}
use Rattle.transcript.specs.Writing.{HasWrittenText}
use Rattle.transcript.proofs.Texts.{both_are}
use Rattle.transcript.proofs.Written.{writes_join}
use Rattle.transcript.proofs.answer.Answer.write.Goals as goal

pub returns-in-Ok : goal.returns-in-Ok
returns-in-Ok g c = record {
  writes =
      subst (λ (l : List ℕ). HasWrittenText l (g.K.Sink.written c.args.sink.now) (g.K.Sink.written c.put_packed.new.sink) (g.K.Sink.faults c.args.sink.now) (g.K.Sink.faults c.put_packed.new.sink) c.put_packed.result)
      (both_are c.args.self.now c.self.inside.plain c.self.inside.packed c.as_slice.result.now c.as_slice-in-Ok.result.now c.self.view_is c.as_slice.ensures c.as_slice-in-Ok.ensures)
      (writes_join c.as_slice.result.now (packed_text c.as_slice-in-Ok.result.now) (g.K.Sink.written c.args.sink.now) (g.K.Sink.written c.put.new.sink) (g.K.Sink.written c.put_packed.new.sink)
      (g.K.Sink.faults c.args.sink.now) (g.K.Sink.faults c.put.new.sink) (g.K.Sink.faults c.put_packed.new.sink) c.put_packed.result c.in-Ok.ensures c.put_packed.ensures);
}
