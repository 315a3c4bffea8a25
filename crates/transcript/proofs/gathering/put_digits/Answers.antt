use Rattle.std.proofs.Common.{◌≡◌, length, sym, eqb-true}
use Rattle.grammar.specs.Hexadecimal.{hex}
use Rattle.transcript.proofs.Written.{piece_on, piece_cut, all_written}
use Rattle.transcript.proofs.gathering.put_digits.Goals as goal

pub returns-in-Err : goal.returns-in-Err
returns-in-Err g c =
    piece_cut (hex c.args.bytes.now) c.loop-rest.rest.now c.split_at.result.0.now c.split_at.result.1.now (g.K.Sink.written c.args.sink.now) (g.K.Sink.written c.loop-rest.sink) (g.K.Sink.written c.put_piece.new.sink)
    (g.K.Sink.faults c.args.sink.now) (g.K.Sink.faults c.loop-rest.sink) (g.K.Sink.faults c.put_piece.new.sink) c.split_at.ensures.by_index.0 c.loop-rest.invariant c.in-Err.field-0 c.in-Err.ensures

pub loop-rest-preserved : goal.loop-rest-preserved
loop-rest-preserved g c =
    piece_on (hex c.args.bytes.now) c.loop-rest.rest.now c.split_at.result.0.now c.split_at.result.1.now (g.K.Sink.written c.args.sink.now) (g.K.Sink.written c.loop-rest.sink) (g.K.Sink.written c.put_piece.new.sink)
    (g.K.Sink.faults c.args.sink.now) (g.K.Sink.faults c.loop-rest.sink) (g.K.Sink.faults c.put_piece.new.sink) c.split_at.ensures.by_index.0 c.loop-rest.invariant c.in-Ok.ensures

pub returns : goal.returns
returns g c =
    let none : length c.loop-rest.rest.now ≡ 0 = eqb-true _ _ (sym c.loop-rest-test.ensures) in
    all_written (hex c.args.bytes.now) c.loop-rest.rest.now (g.K.Sink.written c.args.sink.now) (g.K.Sink.written c.loop-rest.sink) (g.K.Sink.faults c.args.sink.now) (g.K.Sink.faults c.loop-rest.sink) none c.loop-rest.invariant
