use Rattle.std.proofs.Common.{sym, ◌∙◌}
use Rattle.record_checks.specs.Checks.{ByDelete}
use Rattle.record_checks.proofs.record.delete_place.Goals as goal

pub returns-then-entry-le-RECIPE_LIMIT : goal.returns-then-entry-le-RECIPE_LIMIT
returns-then-entry-le-RECIPE_LIMIT c = λ g inside.
    (ByDelete c.args.delete.now c.in-Some.entry (sym c.entry.ensures.kept ∙ c.in-Some.is) c.if-entry-le-RECIPE_LIMIT.true, c.if-entry-le-RECIPE_LIMIT.true)
