use Rattle.std.proofs.Common.{refl}
use Rattle.command_words.specs.Views.{asked_migrate}
use Rattle.cd_top.specs.Migrate.{NotRooted}
use Rattle.cd_top.proofs.Certifying.{unrooted}
use Rattle.cd_top.proofs.Migrating.{migrated_in}
use Rattle.cd_top.proofs.migrates.migrate_in.Goals as goal

pub returns-in-Err : goal.returns-in-Err
returns-in-Err g c = NotRooted (unrooted _ _ refl refl c.root.ensures.stays c.in-Err.ensures.cause.failed)

pub returns : goal.returns
returns g c =
    migrated_in c.migrate_cloud.result (asked_migrate c.args.asked.now) _ (g.V.Shelf.cloud_at c.root.new.self) _ _
    (g.V.Shelf.faults c.root.new.self) _ _ c.root.ensures.stays c.in-Ok.ensures.cause.still
    c.migrate_cloud.ensures.migrated c.migrate_cloud.ensures.call c.migrate_cloud.ensures.complete
