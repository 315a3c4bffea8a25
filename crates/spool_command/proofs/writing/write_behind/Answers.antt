use Rattle.std.proofs.Common.{List, ℕ, ◌∙◌, subst}
use Rattle.backup_command.specs.Writing.{HasWrittenOrCause, output_of}
use Rattle.spool_command.proofs.writing.write_behind.Goals as goal

pub returns-in-Ok : goal.returns-in-Ok
returns-in-Ok g c = subst (λ (l : List ℕ). HasWrittenOrCause l c.args.due (output_of (g.K.Sink.written c.args.sink.now)
    (g.K.Sink.written c.write_text.new.sink) (g.K.Sink.faults c.args.sink.now)
    (g.K.Sink.faults c.write_text.new.sink)) c.write_text.result)
    (c.as_slice.ensures ∙ c.in-Ok.ensures.ok) c.write_text.ensures
