use Rattle.std.proofs.Common.{◌<◌, sym, ap, subst}
use Rattle.std.specs.Prelude.{IsTrue}
use Rattle.commit_journal.specs.CdEdges.area.Area.TheVariants.{Journal}
use Rattle.commit_journal.specs.CdEdges.Disk.{Cloud, reads}
use Rattle.local_link.specs.declared.servers.Servers.{Servers}
use Rattle.read_command.specs.Disks.{NamesRooms}
use Rattle.read_command.proofs.Disks.{fails_open, opening_from}
use Rattle.read_command.proofs.opening.open_cloud.Goals as goal

pub open_in-requires : goal.open_in-requires
open_in-requires g c =
    let s = c.in-Ok.ensures in record {
      reached = subst (λ (x : Servers). c.args.cloud.0 < x.shape.n) (sym c.named_rooms.ensures.still.0) c.requires.reached;
      allowed = s.allowed;
      named = subst (λ (k : Cloud). IsTrue k.told → NamesRooms (reads k.now Journal) c.in-Ok.rooms) (sym s.same.0) s.named;
    }

pub returns-in-Ok-clause-opens : goal.returns-in-Ok-clause-opens
returns-in-Ok-clause-opens g c =
    let clouds = g.V.Shelf.cloud_at in
    let mid = c.named_rooms.new.link in
    let new = c.open_in.new.link in
    let s = c.in-Ok.ensures in
    opening_from clouds mid.servers.shape c.args.link.now.servers.shape (clouds mid.shelf.now c.args.cloud.0) (clouds c.args.link.now.shelf.now c.args.cloud.0)
    (g.V.Shelf.faults mid.shelf.now) (g.V.Shelf.faults c.args.link.now.shelf.now) new (g.V.Shelf.faults new.shelf.now) c.args.cloud.0 c.open_in.result
    (ap (λ (x : Servers). x.shape) c.named_rooms.ensures.still.0) s.same.0 s.same.1 c.open_in.ensures.opens

pub returns-in-Err-clause-opens : goal.returns-in-Err-clause-opens
returns-in-Err-clause-opens g c =
    let clouds = g.V.Shelf.cloud_at in
    let old = c.args.link.now in
    let new = c.named_rooms.new.link in
    fails_open clouds old.servers.shape (clouds old.shelf.now c.args.cloud.0) new c.args.cloud (g.V.Shelf.faults old.shelf.now) (g.V.Shelf.faults new.shelf.now) c.in-Err.end
    c.in-Err.ensures.failed.0 c.in-Err.ensures.failed.1 c.named_rooms.ensures.stays c.named_rooms.ensures.armings (λ told. g.met.V.Shelf.reads_image old.shelf.now c.args.cloud.0 told)
