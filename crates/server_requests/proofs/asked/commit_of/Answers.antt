use Rattle.std.proofs.Common.{arith}
use Rattle.server_requests.proofs.Places.{recipe_within}
use Rattle.server_requests.proofs.asked.commit_of.Goals as goal

pub overflow_add-result : goal.overflow_add-result
overflow_add-result c = omega (arith, recipe_within c.args.shape c.args.recipe.now c.in-Err.fault.at c.in-Err.ensures.checks)
