use Rattle.std.proofs.Common.{List, ℕ, Some, ◌++◌, ap, ◌∙◌, subst}
use Rattle.lane_steps.specs.Recipe.Spelling.{file_limit}
use Rattle.transcript.specs.declared.ending.Ending.TheVariants as endings
use Rattle.transcript.specs.Endings.{ending_text}
use Rattle.backup_command.specs.Writing.{HasWrittenOrCause, output_of}
use Rattle.backup_command.proofs.writing.write_too_long.Goals as goal

pub returns-in-Ok : goal.returns-in-Ok
returns-in-Ok g c = subst (λ (l : List ℕ). HasWrittenOrCause l 2 (output_of (g.K.Sink.written c.args.sink.now)
    (g.K.Sink.written c.write_text.new.sink) (g.K.Sink.faults c.args.sink.now)
    (g.K.Sink.faults c.write_text.new.sink)) c.write_text.result)
    (c.as_slice.ensures ∙ (c.in-Ok.ensures.ok
    ∙ ap (λ (l : List ℕ). l ++ ending_text (endings.Script 1 file_limit (Some c.args.byte))) c.new-line.ensures))
    c.write_text.ensures
