use Rattle.std.proofs.Common.{sym, ◌∙◌}
use Rattle.session.proofs.CloudTexts.{sources_some, sources_none}
use Rattle.session.proofs.kinds.sources_of.Goals as goal

pub returns-in-Some : goal.returns-in-Some
returns-in-Some c = c.enough_of.ensures ∙ sources_some c.args.shape c.args.word.now c.in-Some.clouds (sym c.in-Some.is ∙ c.in_ok-clouds.ensures)

pub returns-in-None : goal.returns-in-None
returns-in-None c = sources_none c.args.shape c.args.word.now (sym c.in-None.is ∙ c.in_ok-clouds.ensures)
