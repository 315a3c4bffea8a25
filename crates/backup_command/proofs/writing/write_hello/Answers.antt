use Rattle.std.proofs.Common.{List, ℕ, ◌++◌, ap, ◌∙◌, subst}
use Rattle.ports_link.specs.Refusals.{refused_text}
use Rattle.backup_command.specs.Writing.{HasWrittenOrCause, output_of}
use Rattle.backup_command.proofs.writing.write_hello.Goals as goal

pub returns-in-Ok : goal.returns-in-Ok
returns-in-Ok g c = subst (λ (l : List ℕ). HasWrittenOrCause l 8 (output_of (g.K.Sink.written c.args.sink.now)
    (g.K.Sink.written c.write_text.new.sink) (g.K.Sink.faults c.args.sink.now)
    (g.K.Sink.faults c.write_text.new.sink)) c.write_text.result)
    (c.as_slice.ensures ∙ (c.in-Ok.ensures.ok ∙ ap (λ (l : List ℕ). l ++ refused_text c.args.refused.now)
    c.new-line.ensures)) c.write_text.ensures
