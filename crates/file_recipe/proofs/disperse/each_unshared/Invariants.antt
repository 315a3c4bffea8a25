use Rattle.std.proofs.Common.{◌≡◌, map}
use Rattle.std.specs.List.{range_with_len}
use Rattle.file_recipe.specs.Progress.{unshared}
use Rattle.file_recipe.proofs.disperse.each_unshared.Given as goal

abbrev pub invariant-loop-place : goal.invariant-loop-place
invariant-loop-place l = l.files.items ≡ map (λ j. unshared l.shape j l.path l.file) (range_with_len l.first l.place)
