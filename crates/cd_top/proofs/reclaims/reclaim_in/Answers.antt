use Rattle.std.proofs.Common.{refl}
use Rattle.command_words.specs.Views.{asked_cloud}
use Rattle.cd_top.specs.Reclaim.{Unrooted}
use Rattle.cd_top.proofs.Certifying.{unrooted}
use Rattle.cd_top.proofs.Reclaiming.{reclaimed_in}
use Rattle.cd_top.proofs.reclaims.reclaim_in.Goals as goal

pub returns-in-Err : goal.returns-in-Err
returns-in-Err g c = Unrooted (unrooted _ _ refl refl c.root.ensures.stays c.in-Err.ensures.cause.failed)

pub returns : goal.returns
returns g c =
    reclaimed_in c.reclaim_cloud.result (asked_cloud c.args.asked.now) _ (g.V.Shelf.cloud_at c.root.new.self) _ _
    (g.V.Shelf.faults c.root.new.self) _ _ c.root.ensures.stays c.in-Ok.ensures.cause.still
    c.reclaim_cloud.ensures.reclaimed c.reclaim_cloud.ensures.call c.reclaim_cloud.ensures.complete
