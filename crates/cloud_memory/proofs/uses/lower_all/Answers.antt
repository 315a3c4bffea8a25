use Rattle.cloud_areas.specs.UserDedup.Owning.{fps_in}
use Rattle.cloud_memory.specs.Steps.{without_use}
use Rattle.cloud_memory.proofs.Walking.{walked_more}
use Rattle.cloud_memory.proofs.uses.lower_all.Goals as goal

pub loop-place-preserved : goal.loop-place-preserved
loop-place-preserved c =
    walked_more (without_use c.args.user) c.args.shares.now c.loop-place.shares c.lower.new.shares (fps_in c.args.recipe.now.items) c.loop-place.place c.fp_at.result c.fp_at.ensures
    c.loop-place.invariant c.lower.ensures.owners c.lower.ensures.others
