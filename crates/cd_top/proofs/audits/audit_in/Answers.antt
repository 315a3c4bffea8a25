use Rattle.std.proofs.Common.{refl}
use Rattle.command_words.specs.Views.{asked_cloud}
use Rattle.cd_top.specs.Audit.{NoDirectory}
use Rattle.cd_top.proofs.Certifying.{unrooted, audited_in}
use Rattle.cd_top.proofs.audits.audit_in.Goals as goal

pub returns-in-Err : goal.returns-in-Err
returns-in-Err g c = NoDirectory (unrooted _ _ refl refl c.root.ensures.stays c.in-Err.ensures.cause.failed)

pub returns : goal.returns
returns g c =
    audited_in c.audit_cloud.result (asked_cloud c.args.asked.now) _ (g.V.Shelf.cloud_at c.root.new.self) _ _
    (g.V.Shelf.faults c.root.new.self) _ _ c.root.ensures.stays c.in-Ok.ensures.cause.still
    c.audit_cloud.ensures.audited c.audit_cloud.ensures.call c.audit_cloud.ensures.complete
