use Rattle.std.proofs.Common.{◌≡◌, ◌*◌, take}
use Rattle.std.specs.List.{flat_map}
use Rattle.recipe.specs.Spelling.{item}
use Rattle.recipe.proofs.writing.write_items.Given as goal

abbrev pub invariant-loop-place : goal.invariant-loop-place
invariant-loop-place l = take (36 * l.place) l.out ≡ flat_map item (take l.place l.items)
