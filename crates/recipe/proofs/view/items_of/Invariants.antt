use Rattle.std.proofs.Common.{◌≡◌, take}
use Rattle.recipe.specs.InPlace.{items_in}
use Rattle.recipe.proofs.view.items_of.Given as goal

abbrev pub invariant-loop-place : goal.invariant-loop-place
invariant-loop-place l = l.items ≡ take l.place (items_in l.count l.bytes)
