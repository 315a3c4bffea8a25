use Rattle.cloud_areas.specs.UserDedup.Owning.{fps_in}
use Rattle.cloud_memory.specs.Steps.{without_use}
use Rattle.cloud_memory.proofs.Walking.{Walked}
use Rattle.cloud_memory.proofs.uses.lower_all.Given as goal

abbrev pub invariant-loop-place : goal.invariant-loop-place
invariant-loop-place l = Walked (without_use l.user) l.initial.shares l.shares (fps_in l.recipe.items) l.place
