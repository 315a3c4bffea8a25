use Rattle.std.proofs.Common.{List, ℕ, ◌++◌, ap, ◌∙◌, subst}
use Rattle.backup_command.specs.Writing.{HasWrittenOrCause, output_of}
use Rattle.spool_command.specs.Writing.{refusal_text}
use Rattle.spool_command.proofs.writing.write_unkept.Goals as goal

pub returns-in-Ok : goal.returns-in-Ok
returns-in-Ok g c =
    let out = output_of (g.K.Sink.written c.args.sink.now) (g.K.Sink.written c.write_text.new.sink)
    (g.K.Sink.faults c.args.sink.now) (g.K.Sink.faults c.write_text.new.sink) in
    subst (λ (n : ℕ). HasWrittenOrCause (refusal_text c.args.error.now) n out c.write_text.result) c.status_for.ensures
    (subst (λ (l : List ℕ). HasWrittenOrCause l c.status_for.result out c.write_text.result)
    (c.as_slice.ensures ∙ (c.in-Ok.ensures ∙ ap (λ (l : List ℕ). l ++ refusal_text c.args.error.now) c.new-line.ensures))
    c.write_text.ensures)
