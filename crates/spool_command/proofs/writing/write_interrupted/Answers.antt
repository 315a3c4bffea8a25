use Rattle.std.proofs.Common.{ℕ, List, Err, sym, subst}
use Rattle.backup_command.specs.Writing.{Output, HasWrittenOrCause, output_of}
use Rattle.spool_command.specs.declared.interruption.Interruption.{Interruption}
use Rattle.spool_command.specs.declared.writing.Unspooled.TheVariants.{Interrupted}
use Rattle.spool_command.specs.Writing.{IsWritten}
use Rattle.spool_command.proofs.writing.write_interrupted.Goals as goal

pub returns-in-Ports : goal.returns-in-Ports
returns-in-Ports g c =
    let out : Output = output_of (g.K.Sink.written c.args.sink.now) (g.K.Sink.written c.write_text.new.sink)
    (g.K.Sink.faults c.args.sink.now) (g.K.Sink.faults c.write_text.new.sink) in
    subst (λ (why : Interruption). IsWritten (Err (Interrupted why)) c.args.text out c.write_text.result) (sym c.in-Ports.is)
    (subst (λ (l : List ℕ). HasWrittenOrCause l 9 out c.write_text.result) c.as_slice.ensures c.write_text.ensures)

pub returns-in-Shelf : goal.returns-in-Shelf
returns-in-Shelf g c =
    let out : Output = output_of (g.K.Sink.written c.args.sink.now) (g.K.Sink.written c.write_behind.new.sink)
    (g.K.Sink.faults c.args.sink.now) (g.K.Sink.faults c.write_behind.new.sink) in
    subst (λ (why : Interruption). IsWritten (Err (Interrupted why)) c.args.text out c.write_behind.result) (sym c.in-Shelf.is)
    c.write_behind.ensures
