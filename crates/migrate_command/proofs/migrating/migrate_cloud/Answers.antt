use Rattle.std.proofs.Common.{◌≡◌, ap}
use Rattle.command_cloud.specs.Opened.{CloudCall, IsUnchanged, cloud_call}
use Rattle.command_cloud.specs.BackupCommand.Writing.{output_of}
use Rattle.migrate_command.proofs.Completing.{completes}
use Rattle.migrate_command.proofs.Ends.{if_no_memory}
use Rattle.migrate_command.specs.TakenOver.{IsTakenOver}
use Rattle.migrate_command.proofs.migrating.migrate_cloud.Goals as goal

pub returns-clause-migrated : goal.returns-clause-migrated
returns-clause-migrated g c =
    let a = c.migrate-came.ensures in
    record {
      result = c.migrate-came.result;
      of = record {
        any_moment = a.any_moment;
        migrated = a.migrated;
        exact = a.exact;
        spared = a.spared;
        synced_first = a.synced_first;
        left = a.left;
        undone = if_no_memory c.migrate-came.result _ _ (λ same. record {
          cloud_is = ap (λ s. g.V.Shelf.cloud_at s c.args.cloud.0) same;
          total = ap (λ s. g.V.Shelf.faults s) same;
        }) a.undone;
        counts = a.counts;
      };
      writes = c.write_migrated.ensures;
    }

pub returns-clause-complete : goal.returns-clause-complete
returns-clause-complete g c = λ list well small. completes c.args.rooms list _ _ well small c.write_migrated.result (returns-clause-migrated g c)
