use Rattle.server_requests.specs.CdEdges.area.Area.TheVariants.{Journal}
use Rattle.server_requests.specs.CdEdges.Disk.{reads}
use Rattle.blob_copy.specs.CloudOpening.CloudMemory.Rooms.{memory_of}
use Rattle.share_server.proofs.ByteLaws.{not_begun_is, other_store_is}
use Rattle.share_server.proofs.Openings.{reopens, loads, whole_for, shut_of, read_to_end}
use Rattle.share_server.proofs.server.Server.reopen.Goals as goal

pub returns-clause-shut : goal.returns-clause-shut
returns-clause-shut g c = shut_of c.«open».result c.«open».new.self c.«open».ensures.stage

pub returns-clause-peer : goal.returns-clause-peer
returns-clause-peer g c p told serving =
    let old = c.args.self.now.store in let number = old.header.cloud.0 in let shelf = c.args.shelf.now in let d = c.«open».ensures in
    let c0 = g.V.Shelf.cloud_at shelf number in let c1 = g.V.Shelf.cloud_at c.«open».new.shelf number in
    let new = c.«open».new.self in let settled = c.args.self.now.kept.settled in let r = c.«open».result in
    reopens old new c0 c1 p c.args.begin serving d.header settled.format settled.header.rooms (g.met.V.Shelf.reads_image shelf number told) r
    (g.V.Shelf.faults shelf) (g.V.Shelf.faults c.«open».new.shelf) (shut_of r new d.stage) d.call.armings (c.law_of_peers.ensures.lists old.header c0 c1 p serving.stands.images (d.kept told))
    (d.serves told) d.commands (d.whole told) (not_begun_is old.header c.args.begin c0 c1 (memory_of new.memory) r (d.exact told) (d.spares told)) d.counts

pub returns-clause-loaded : goal.returns-clause-loaded
returns-clause-loaded g c told list stands within =
    let old = c.args.self.now.store in let number = old.header.cloud.0 in let d = c.«open».ensures in let settled = c.args.self.now.kept.settled in
    loads old.header (reads (g.V.Shelf.cloud_at c.args.shelf.now number).now) c.«open».new.self (g.V.Shelf.cloud_at c.«open».new.shelf number) list c.«open».result settled.format settled.header.rooms
    (d.serves told) d.commands stands within

pub returns-clause-whole : goal.returns-clause-whole
returns-clause-whole g c told list stands within may =
    let old = c.args.self.now.store in let number = old.header.cloud.0 in let settled = c.args.self.now.kept.settled in
    let c0 = g.V.Shelf.cloud_at c.args.shelf.now number in
    whole_for old.header (reads c0.now) list c.args.begin (c0.now Journal).read c.«open».result settled.format settled.header.rooms (c.«open».ensures.whole told) stands within may

pub returns-clause-not_begun : goal.returns-clause-not_begun
returns-clause-not_begun g c told =
    let old = c.args.self.now.store in let number = old.header.cloud.0 in let d = c.«open».ensures in
    not_begun_is old.header c.args.begin (g.V.Shelf.cloud_at c.args.shelf.now number) (g.V.Shelf.cloud_at c.«open».new.shelf number) (memory_of c.«open».new.self.memory) c.«open».result (d.exact told) (d.spares told)

pub returns-clause-other_store : goal.returns-clause-other_store
returns-clause-other_store g c told =
    let old = c.args.self.now.store in let number = old.header.cloud.0 in let d = c.«open».ensures in
    other_store_is old.header c.args.begin (g.V.Shelf.cloud_at c.args.shelf.now number) (g.V.Shelf.cloud_at c.«open».new.shelf number) (memory_of c.«open».new.self.memory) c.«open».result (d.exact told)

pub returns-clause-read : goal.returns-clause-read
returns-clause-read g c told =
    let number = c.args.self.now.store.header.cloud.0 in
    read_to_end c.«open».new.self c.args.self.now.store.header (g.V.Shelf.cloud_at c.«open».new.shelf number) c.«open».result (c.«open».ensures.read told)
