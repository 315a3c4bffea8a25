use Rattle.std.proofs.Common.{◌≡◌, length}
use Rattle.recipe.proofs.Lengths.{SameFrom}
use Rattle.recipe.proofs.rules.are_items_of.Given as goal

abbrev pub invariant-loop-place : goal.invariant-loop-place
invariant-loop-place l = record { all : l.count ≡ length l.items; same : SameFrom l.items l.place }
