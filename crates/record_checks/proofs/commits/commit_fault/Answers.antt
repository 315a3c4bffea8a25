use Rattle.std.proofs.Common.{ap, sym, ◌∙◌}
use Rattle.std.specs.Prelude.{is_some}
use Rattle.record_checks.specs.Steps.{PlaceFails, TagFails}
use Rattle.record_checks.proofs.Faults.{not_so}
use Rattle.record_checks.proofs.commits.commit_fault.Goals as goal

pub returns-then-not-recipe_lies-clause-fault : goal.returns-then-not-recipe_lies-clause-fault
returns-then-not-recipe_lies-clause-fault c = PlaceFails (not_so c.recipe_lies.result c.recipe_lies.ensures.lies c.if-not-recipe_lies.true)

pub returns-in-Some-clause-fault : goal.returns-in-Some-clause-fault
returns-in-Some-clause-fault c = TagFails (c.recipe_lies.ensures.lies.0 c.if-not-recipe_lies.false) (ap is_some (sym c.entry.ensures.kept ∙ c.in-Some.is))
