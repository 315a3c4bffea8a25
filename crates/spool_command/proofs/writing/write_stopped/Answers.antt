use Rattle.std.proofs.Common.{Err, sym, subst}
use Rattle.backup_command.specs.Writing.{Output, output_of}
use Rattle.spool_command.specs.declared.writing.Unspooled.{Unspooled}
use Rattle.spool_command.specs.Writing.{IsWritten}
use Rattle.spool_command.proofs.writing.write_stopped.Goals as goal

pub returns-in-Refused : goal.returns-in-Refused
returns-in-Refused g c =
    let out : Output = output_of (g.K.Sink.written c.args.sink.now) (g.K.Sink.written c.write_hello.new.sink)
    (g.K.Sink.faults c.args.sink.now) (g.K.Sink.faults c.write_hello.new.sink) in
    subst (λ (why : Unspooled). IsWritten (Err why) c.args.text out c.write_hello.result) (sym c.in-Refused.is) c.write_hello.ensures

pub returns-in-Unkept : goal.returns-in-Unkept
returns-in-Unkept g c =
    let out : Output = output_of (g.K.Sink.written c.args.sink.now) (g.K.Sink.written c.write_unkept.new.sink)
    (g.K.Sink.faults c.args.sink.now) (g.K.Sink.faults c.write_unkept.new.sink) in
    subst (λ (why : Unspooled). IsWritten (Err why) c.args.text out c.write_unkept.result) (sym c.in-Unkept.is) c.write_unkept.ensures

pub returns-in-Interrupted : goal.returns-in-Interrupted
returns-in-Interrupted g c =
    let out : Output = output_of (g.K.Sink.written c.args.sink.now) (g.K.Sink.written c.write_interrupted.new.sink)
    (g.K.Sink.faults c.args.sink.now) (g.K.Sink.faults c.write_interrupted.new.sink) in
    subst (λ (why : Unspooled). IsWritten (Err why) c.args.text out c.write_interrupted.result) (sym c.in-Interrupted.is) c.write_interrupted.ensures
