use Rattle.std.proofs.Common.{ℕ, List, ◌++◌, ap, ◌∙◌, subst}
use Rattle.ports_link.specs.Refusals.{refused_text}
use Rattle.restore_command.specs.Ends.{HasWrittenBytes}
use Rattle.restore_command.proofs.writing.write_hello.Goals as goal

pub returns-in-Ok : goal.returns-in-Ok
returns-in-Ok g c =
    let line = refused_text c.args.refused.now in
    subst (λ (bytes : List ℕ). HasWrittenBytes bytes 8 (g.K.Sink.written c.args.sink.now)
    (g.K.Sink.written c.write_text.new.sink) (g.K.Sink.faults c.args.sink.now) (g.K.Sink.faults c.write_text.new.sink) c.write_text.result)
    (c.as_slice.ensures ∙ c.in-Ok.ensures.ok ∙ ap (λ (l : List ℕ). l ++ line) c.new-line.ensures) c.write_text.ensures
