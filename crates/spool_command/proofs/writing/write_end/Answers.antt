use Rattle.std.proofs.Common.{Bool, sym, subst}
use Rattle.std.specs.Prelude.{Option, Result}
use Rattle.backup_command.specs.Writing.{Output, output_of}
use Rattle.spool_command.specs.declared.writing.Unspooled.{Unspooled}
use Rattle.spool_command.specs.Writing.{IsWritten}
use Rattle.spool_command.proofs.writing.write_end.Goals as goal

pub returns-in-Ok : goal.returns-in-Ok
returns-in-Ok g c =
    let out : Output = output_of (g.K.Sink.written c.args.sink.now) (g.K.Sink.written c.write_came.new.sink)
    (g.K.Sink.faults c.args.sink.now) (g.K.Sink.faults c.write_came.new.sink) in
    subst (λ (came : Result (Option Bool) Unspooled). IsWritten came c.args.text out c.write_came.result) (sym c.in-Ok.is)
    c.write_came.ensures

pub returns-in-Err : goal.returns-in-Err
returns-in-Err g c =
    let out : Output = output_of (g.K.Sink.written c.args.sink.now) (g.K.Sink.written c.write_stopped.new.sink)
    (g.K.Sink.faults c.args.sink.now) (g.K.Sink.faults c.write_stopped.new.sink) in
    subst (λ (came : Result (Option Bool) Unspooled). IsWritten came c.args.text out c.write_stopped.result) (sym c.in-Err.is)
    c.write_stopped.ensures
