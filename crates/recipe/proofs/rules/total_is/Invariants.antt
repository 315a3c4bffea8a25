use Rattle.std.proofs.Common.{◌≡◌, ◌+◌, take}
use Rattle.recipe.specs.Spelling.{total}
use Rattle.recipe.proofs.rules.total_is.Given as goal

abbrev pub invariant-loop-item : goal.invariant-loop-item
invariant-loop-item l = l.left + total (take l.item-index l.items) ≡ l.file
