use Rattle.cloud_areas.specs.UserDedup.Owning.{fps_in}
use Rattle.cloud_memory.specs.Sharing.{AreOwned}
use Rattle.cloud_memory.specs.Steps.{with_use}
use Rattle.cloud_memory.proofs.Walking.{Walked}
use Rattle.cloud_memory.proofs.uses.raise_all.Given as goal

abbrev pub invariant-loop-place : goal.invariant-loop-place
invariant-loop-place l = Walked (with_use l.user) l.initial.shares l.shares (fps_in l.recipe.items) l.place × AreOwned l.shares.owners l.user (fps_in l.recipe.items)
