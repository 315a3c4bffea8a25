use Rattle.std.proofs.Common.{◌≡◌, refl, sym, ◌∙◌, subst}
use Rattle.std.specs.Prelude.{IsTrue, Err}
use Rattle.commit_journal.specs.CdEdges.area.Area.TheVariants.{Journal}
use Rattle.commit_journal.specs.CdEdges.Disk.{Cloud, reads}
use Rattle.read_command.specs.declared.end.ReadEnd.TheVariants as ends
use Rattle.read_command.specs.Disks.{NamesRooms}
use Rattle.read_command.proofs.Disks.{came_by, opening_by, opening_none, opening_from, rooms_in}
use Rattle.read_command.proofs.opening.open_in.Goals as goal

pub returns-in-Ok-reopen-clause-opens : goal.returns-in-Ok-reopen-clause-opens
returns-in-Ok-reopen-clause-opens g c =
    let clouds = g.V.Shelf.cloud_at in
    let mid = c.set_rooms.new.self in
    let new = c.reopen.new.self in
    let s = c.in-Ok.ensures in
    let r = c.reopen.ensures in
    let same : clouds mid.shelf.now c.args.cloud.0 ≡ clouds c.args.link.now.shelf.now c.args.cloud.0 = λ i. clouds (s.still.0 i).now c.args.cloud.0 in
    opening_from clouds mid.servers.shape c.args.link.now.servers.shape (clouds mid.shelf.now c.args.cloud.0) (clouds c.args.link.now.shelf.now c.args.cloud.0) _ _ new _ c.args.cloud.0 _
    s.others.shape_stays (λ i. clouds (s.still.0 i).now c.args.cloud.0) (λ i. g.V.Shelf.faults (s.still.0 i).now)
    (opening_by clouds c.law_of_headers.ensures mid new c.args.cloud c.args.rooms (g.V.Shelf.faults mid.shelf.now) (g.V.Shelf.faults new.shelf.now) c.reopen.result _
    (rooms_in c.args.rooms mid.servers c.args.cloud.0 s.closed)
    (subst (λ (k : Cloud). IsTrue k.told → NamesRooms (reads k.now Journal) c.args.rooms) (sym same) c.requires.named)
    r.exact r.not_begun r.other_store r.whole r.loaded r.counts r.areas r.rooms r.rest.shape_stays r.call.armings (λ i. came_by c.args.cloud (sym c.in-Ok-reopen.is i)))

pub returns-in-Err-reopen-clause-opens : goal.returns-in-Err-reopen-clause-opens
returns-in-Err-reopen-clause-opens g c =
    let clouds = g.V.Shelf.cloud_at in
    let mid = c.set_rooms.new.self in
    let new = c.reopen.new.self in
    let s = c.in-Ok.ensures in
    let r = c.reopen.ensures in
    let same : clouds mid.shelf.now c.args.cloud.0 ≡ clouds c.args.link.now.shelf.now c.args.cloud.0 = λ i. clouds (s.still.0 i).now c.args.cloud.0 in
    let ended : Err c.end_of.result ≡ came_by c.args.cloud (Err c.in-Err-reopen.error) = λ i. Err (c.end_of.ensures i) in
    opening_from clouds mid.servers.shape c.args.link.now.servers.shape (clouds mid.shelf.now c.args.cloud.0) (clouds c.args.link.now.shelf.now c.args.cloud.0) _ _ new _ c.args.cloud.0 _
    s.others.shape_stays (λ i. clouds (s.still.0 i).now c.args.cloud.0) (λ i. g.V.Shelf.faults (s.still.0 i).now)
    (opening_by clouds c.law_of_headers.ensures mid new c.args.cloud c.args.rooms (g.V.Shelf.faults mid.shelf.now) (g.V.Shelf.faults new.shelf.now) c.reopen.result _
    (rooms_in c.args.rooms mid.servers c.args.cloud.0 s.closed)
    (subst (λ (k : Cloud). IsTrue k.told → NamesRooms (reads k.now Journal) c.args.rooms) (sym same) c.requires.named)
    r.exact r.not_begun r.other_store r.whole r.loaded r.counts r.areas r.rooms r.rest.shape_stays r.call.armings (ended ∙ (λ i. came_by c.args.cloud (sym c.in-Err-reopen.is i))))

pub returns-in-Err-clause-opens : goal.returns-in-Err-clause-opens
returns-in-Err-clause-opens g c =
    let clouds = g.V.Shelf.cloud_at in
    let new = c.set_rooms.new.self in
    let e = c.in-Err.ensures.err in
    opening_from clouds new.servers.shape c.args.link.now.servers.shape (clouds new.shelf.now c.args.cloud.0) (clouds c.args.link.now.shelf.now c.args.cloud.0) _ _ new _ c.args.cloud.0 _
    (λ i. (e i).servers.shape) (λ i. clouds (e i).shelf.now c.args.cloud.0) (λ i. g.V.Shelf.faults (e i).shelf.now)
    (opening_none clouds new.servers.shape (clouds new.shelf.now c.args.cloud.0) new c.args.cloud.0 (g.V.Shelf.faults new.shelf.now) _ ends.NoMemory _ refl tt tt
    (record { armed = refl; past = refl; now = refl }) refl (λ told. g.met.V.Shelf.reads_image new.shelf.now c.args.cloud.0 told))
