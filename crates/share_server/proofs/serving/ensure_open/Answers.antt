use Rattle.std.proofs.Common.{◌≡◌, true, false, Ok, Err, refl, sym, ◌∙◌}
use Rattle.blob_copy.specs.CloudOpening.CloudMemory.Rooms.{memory_of}
use Rattle.share_server.proofs.ByteLaws.{not_begun_is}
use Rattle.share_server.proofs.Openings.{open_before, open_images, read_served, settled_peer_of, reopens, error_opens, may_come, is_unopened}
use Rattle.share_server.proofs.Peers.{shut_closed}
use Rattle.share_server.proofs.serving.ensure_open.Goals as goal

pub returns-then-is_open-clause-peer : goal.returns-then-is_open-clause-peer
returns-then-is_open-clause-peer g c p told serving =
    let old = c.args.store.now in
    open_before old (g.V.Shelf.cloud_at c.args.shelf.now old.header.cloud.0) p serving (c.is_open.ensures.0 c.if-is_open.true)

pub returns-then-is_open-clause-images : goal.returns-then-is_open-clause-images
returns-then-is_open-clause-images g c p told serving =
    let old = c.args.store.now in open_images old (g.V.Shelf.cloud_at c.args.shelf.now old.header.cloud.0) p serving

pub returns-in-Ok-clause-peer : goal.returns-in-Ok-clause-peer
returns-in-Ok-clause-peer g c p told serving =
    let old = c.args.store.now in let number = old.header.cloud.0 in let shelf = c.args.shelf.now in let d = c.in-Ok.ensures in
    let c0 = g.V.Shelf.cloud_at shelf number in let c1 = g.V.Shelf.cloud_at c.«open».new.shelf number in
    let new = c.«open».new.self in let settled = c.requires.kept.settled in
    let l = read_served old new c0 c1 p true serving d.header settled.format settled.header.rooms (g.met.V.Shelf.reads_image shelf number told) (Ok c.in-Ok.field-0) (d.serves told) in
    settled_peer_of old new c0 c1 p true serving d.header l.0 (g.V.Shelf.faults shelf) (g.V.Shelf.faults c.«open».new.shelf) l.1 l.2 d.call.armings d.counts

pub returns-in-Ok-clause-images : goal.returns-in-Ok-clause-images
returns-in-Ok-clause-images g c p told serving =
    let old = c.args.store.now in let number = old.header.cloud.0 in
    c.law_of_peers.ensures.lists old.header (g.V.Shelf.cloud_at c.args.shelf.now number) (g.V.Shelf.cloud_at c.«open».new.shelf number) p serving.stands.images (c.in-Ok.ensures.kept told)

pub returns-in-Ok-clause-opened : goal.returns-in-Ok-clause-opened
returns-in-Ok-clause-opened g c told shut = (let d = c.in-Ok.ensures in record { commands = c.in-Ok.field-0; exact = d.exact told; spares = d.spares told; w = (d.read told).w; ended = (d.read told).ended })

pub returns-in-Err-clause-peer : goal.returns-in-Err-clause-peer
returns-in-Err-clause-peer g c p told serving =
    let old = c.args.store.now in let number = old.header.cloud.0 in let shelf = c.args.shelf.now in let d = c.in-Err.ensures in
    let c0 = g.V.Shelf.cloud_at shelf number in let c1 = g.V.Shelf.cloud_at c.«open».new.shelf number in
    let new = c.«open».new.self in let settled = c.requires.kept.settled in
    let q = reopens old new c0 c1 p true serving d.header settled.format settled.header.rooms (g.met.V.Shelf.reads_image shelf number told) (Err c.in-Err.error)
    (g.V.Shelf.faults shelf) (g.V.Shelf.faults c.«open».new.shelf) (shut_closed new d.stage) d.call.armings (c.law_of_peers.ensures.lists old.header c0 c1 p serving.stands.images (d.kept told))
    (d.serves told) d.commands (d.whole told) (not_begun_is old.header true c0 c1 (memory_of new.memory) (Err c.in-Err.error) (d.exact told) (d.spares told)) d.counts in
    (q.0, q.1, error_opens p q.0 c.in-Err.error q.2)

pub returns-in-Err-clause-images : goal.returns-in-Err-clause-images
returns-in-Err-clause-images g c p told serving =
    let old = c.args.store.now in let number = old.header.cloud.0 in
    c.law_of_peers.ensures.lists old.header (g.V.Shelf.cloud_at c.args.shelf.now number) (g.V.Shelf.cloud_at c.«open».new.shelf number) p serving.stands.images (c.in-Err.ensures.kept told)

pub returns-in-Err-clause-error : goal.returns-in-Err-clause-error
returns-in-Err-clause-error g c =
    let old = c.args.store.now in let number = old.header.cloud.0 in let d = c.in-Err.ensures in
    let settled = c.requires.kept.settled in (
      may_come c.in-Err.error (d.begins refl),
      is_unopened old c.«open».new.self (g.V.Shelf.cloud_at c.args.shelf.now number) (g.V.Shelf.cloud_at c.«open».new.shelf number) c.in-Err.error
          (λ opened. (let f : true ≡ false = sym (c.is_open.ensures.1 opened) ∙ c.if-is_open.false in cc)) settled.format settled.header.rooms d.exact d.whole d.spares,
    )
