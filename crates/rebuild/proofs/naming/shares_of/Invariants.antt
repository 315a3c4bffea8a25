use Rattle.std.proofs.Common.{◌≡◌, take}
use Rattle.std.specs.List.{flat_map}
use Rattle.rebuild.proofs.naming.shares_of.Given as goal

abbrev pub invariant-loop-recipe : goal.invariant-loop-recipe
invariant-loop-recipe l = l.shares ≡ flat_map (λ recipe. recipe.name_share) (take l.recipe-index l.recipes)
