use Rattle.std.proofs.Common.{◌++◌, ℕ, Bool, List, Ok, sym, subst}
use Rattle.std.specs.Prelude.{Option}
use Rattle.backup_command.specs.Transcript.ending.Ending.TheVariants as endings
use Rattle.backup_command.specs.Transcript.Endings.{ending_text}
use Rattle.backup_command.specs.Writing.{Output, HasWrittenOrCause, output_of}
use Rattle.spool_command.specs.Writing.{IsWritten}
use Rattle.spool_command.proofs.writing.write_came.Goals as goal

pub returns-in-Some : goal.returns-in-Some
returns-in-Some g c =
    let out : Output = output_of (g.K.Sink.written c.args.sink.now) (g.K.Sink.written c.write_text.new.sink)
    (g.K.Sink.faults c.args.sink.now) (g.K.Sink.faults c.write_text.new.sink) in
    subst (λ (came : Option Bool). IsWritten (Ok came) c.args.text out c.write_text.result) (sym c.in-Some.is)
    (subst (λ (n : ℕ). HasWrittenOrCause c.args.text n out c.write_text.result) c.status_of.ensures
    (subst (λ (l : List ℕ). HasWrittenOrCause l c.status_of.result out c.write_text.result) c.as_slice.ensures c.write_text.ensures))

pub returns : goal.returns
returns g c =
    let out : Output = output_of (g.K.Sink.written c.args.sink.now) (g.K.Sink.written c.write_behind.new.sink)
    (g.K.Sink.faults c.args.sink.now) (g.K.Sink.faults c.write_behind.new.sink) in
    subst (λ (came : Option Bool). IsWritten (Ok came) c.args.text out c.write_behind.result) (sym c.in-None.is)
    (subst (λ (l : List ℕ). HasWrittenOrCause (l ++ ending_text endings.NoSpool) 0 out c.write_behind.result) c.new.ensures
    c.write_behind.ensures)
