use Rattle.std.proofs.Common.{IsTrue, sym, subst}
use Rattle.backup_command.specs.CdEdges.area.Area.TheVariants.{Journal}
use Rattle.backup_command.specs.CdEdges.Disk.{Cloud}
use Rattle.backup_command.proofs.CdEdges.Calls.{called_twice}
use Rattle.serve_command.specs.Served.{HasJournalRooms}
use Rattle.command_cloud.proofs.Reopened.{unchanged, behind_search, unfound}
use Rattle.command_cloud.proofs.opening.open_cloud.Goals as goal

pub open_in-requires : goal.open_in-requires
open_in-requires g c =
    let f = c.in-Ok-rooms_of.ensures in record {
      cloud = c.requires.cloud;
      allowed = f.allowed;
      found = subst (λ (k : Cloud). IsTrue k.told → HasJournalRooms (k.now Journal).read c.in-Ok-rooms_of.rooms)
          (sym (unchanged _ _ c.args.cloud.0 _ _ f.call f.stays f.counts)) f.found;
    }

pub returns-in-Ok-rooms_of-clause-opens : goal.returns-in-Ok-rooms_of-clause-opens
returns-in-Ok-rooms_of-clause-opens g c =
    let f = c.in-Ok-rooms_of.ensures in
    behind_search c.in-Ok-rooms_of.rooms c.args.shape c.args.cloud _ _ _ _ _ _ c.open_in.result
    (unchanged _ _ c.args.cloud.0 _ _ f.call f.stays f.counts) f.counts.total c.open_in.ensures.opens

pub returns-in-Ok-rooms_of-clause-call : goal.returns-in-Ok-rooms_of-clause-call
returns-in-Ok-rooms_of-clause-call g c =
    called_twice _ _ _ c.args.cloud.0 _ _ _ c.in-Ok-rooms_of.ensures.call c.open_in.ensures.call

pub returns-clause-opens : goal.returns-clause-opens
returns-clause-opens g c =
    let e = c.in-Err.ensures in
    unfound _ c.in-Err.error e.unreadable e.stays e.counts
