use Rattle.std.proofs.Common.{drop}
use Rattle.std.specs.Prelude.{◌↔◌}
use Rattle.cloud_memory.specs.UserDedup.Owning.{fps_in}
use Rattle.cloud_memory.specs.Sharing.{AreOwned}
use Rattle.record_checks.proofs.commits.owns_all.Given as goal

abbrev pub invariant-loop-place : goal.invariant-loop-place
invariant-loop-place l =
    AreOwned l.memory.shares.owners l.user (fps_in l.recipe.items) ↔ AreOwned l.memory.shares.owners l.user (drop l.place (fps_in l.recipe.items))
