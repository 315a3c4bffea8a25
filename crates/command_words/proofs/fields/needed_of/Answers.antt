use Rattle.std.proofs.Common.{ap, ◌∙◌}
use Rattle.session.specs.Reading.{needed, shape_with}
use Rattle.session.proofs.Shapes.{shape_answer}
use Rattle.command_words.proofs.fields.needed_of.Goals as goal

pub returns-in-Some : goal.returns-in-Some
unfolding needed
returns-in-Some c = shape_answer c.args.n c.in-Some.k c.of.result c.of.ensures
    ∙ ap (shape_with c.args.n) c.in-Some.ensures.value
