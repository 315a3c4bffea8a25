use Rattle.std.proofs.Common.{ℕ, sym, subst}
use Rattle.std.specs.FinMap.{FinMap}
use Rattle.share_index.specs.Order.{owner_cmp}
use Rattle.cloud_areas.specs.UserDedup.Owning.{fps_in}
use Rattle.cloud_memory.specs.Sharing.{AreOwned}
use Rattle.cloud_memory.specs.Steps.{with_use}
use Rattle.cloud_memory.proofs.Walking.{walked_more, still_owned_by}
use Rattle.cloud_memory.proofs.uses.raise_all.Goals as goal

pub loop-place-preserved : goal.loop-place-preserved
loop-place-preserved c =
    let names = fps_in c.args.recipe.now.items in (
      walked_more (with_use c.args.user) c.args.shares.now c.loop-place.shares c.raise.new.shares names c.loop-place.place c.fp_at.result c.fp_at.ensures
          c.loop-place.invariant.0 c.raise.ensures.owners c.raise.ensures.others,
      subst (λ (m : FinMap owner_cmp ℕ). AreOwned m c.args.user names) (sym c.raise.ensures.owners)
          (still_owned_by c.loop-place.shares.owners c.args.user c.fp_at.result names c.loop-place.invariant.1),
    )
