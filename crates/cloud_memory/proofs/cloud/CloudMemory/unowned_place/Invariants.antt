use Rattle.std.specs.Prelude.{take}
use Rattle.cloud_areas.specs.UserDedup.Owning.{fps_in}
use Rattle.cloud_memory.specs.Sharing.{AreOwned}
use Rattle.cloud_memory.proofs.cloud.CloudMemory.unowned_place.Given as goal

abbrev pub invariant-loop-place : goal.invariant-loop-place
invariant-loop-place l = AreOwned l.self.shares.owners l.user (take l.place (fps_in l.recipe.items))
