use Rattle.std.proofs.Common.{◌∙◌, arith}
use Rattle.store_migration.proofs.kit.Kit.make.Goals as goal

pub returns : goal.returns
returns c = record {
  memory = c.in_ok-memory.ensures;
  limit = c.in_ok-journal.ensures.0 ∙ c.half_limit.ensures.limit;
  recipe = omega (arith, c.in_ok-recipe.ensures);
}
