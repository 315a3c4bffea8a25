use Rattle.std.proofs.Common.{List, ℕ, ◌++◌, ◌∙◌, ap}
use Rattle.two_worlds.specs.Transcript.Transcript.{line_text}
use Rattle.script_replay.proofs.Steps.{writes_line}
use Rattle.script_replay.proofs.writing.write_one.Goals as goal

pub returns-in-Ok-clause-end : goal.returns-in-Ok-clause-end
returns-in-Ok-clause-end g c =
    writes_line c.push.new.self (line_text c.args.line.now) (g.K.Sink.written c.args.sink.now) (g.K.Sink.written c.write_text.new.sink) _ _ c.write_text.result
    (c.in-Ok.ensures.ok ∙ ap (λ (l : List ℕ). l ++ line_text c.args.line.now) c.clear.ensures) c.write_text.ensures.end
