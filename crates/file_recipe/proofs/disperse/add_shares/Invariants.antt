use Rattle.std.proofs.Common.{◌+◌, ◌-◌, ◌%◌, ◌≢◌}
use Rattle.file_recipe.specs.Progress.{HasDigests}
use Rattle.file_recipe.proofs.Shares.{GivenBelow}
use Rattle.file_recipe.proofs.disperse.add_shares.Given as goal

abbrev pub invariant-loop-place : goal.invariant-loop-place
invariant-loop-place l = GivenBelow l.first l.secret_len l.width l.shares l.place l.fn.files l.files
    × (l.place % 4 ≢ 0 → HasDigests l.width l.shares (l.first + l.place - l.place % 4) l.end l.four)
