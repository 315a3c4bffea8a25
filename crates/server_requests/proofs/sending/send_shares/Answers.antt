use Rattle.std.proofs.Common.{◌≡◌, refl}
use Rattle.server_commands.specs.Messages.request.Request.TheVariants as requests
use Rattle.server_commands.specs.ServerReads.CloudMemory.Rooms.{memory_of}
use Rattle.server_commands.specs.ServerReads.Found.{IsFoundShare}
use Rattle.server_commands.proofs.ServerReads.Plain.{shares_plain}
use Rattle.server_commands.proofs.ServerReads.Rotting.{shares_rotten}
use Rattle.server_requests.proofs.Contents.{gives_plain, foreign_leaves, are_asked}
use Rattle.server_requests.proofs.Readings.{ready_after, was_read, was_failed}
use Rattle.server_requests.proofs.sending.send_shares.Goals as goal

pub returns-in-Ok-clause-does : goal.returns-in-Ok-clause-does
returns-in-Ok-clause-does g c =
    let old = c.args.store.now in let at = g.V.Shelf.cloud_at in let faults = g.V.Shelf.faults in
    let new = c.shares_on_disk.new in let e = c.in-Ok.ensures in
    let fps = c.args.fps.now in
    let found = IsFoundShare (at c.args.shelf.now old.header.cloud.0) (memory_of old.memory) in
    was_read (new.shelf ≡ c.args.shelf.now) old new.disk (at c.args.shelf.now) (at new.shelf) (faults c.args.shelf.now) (faults new.shelf) (requests.GetShares c.args.user fps) new.reply
    c.requires.ready e.disk e.stays e.call e.uncounted (λ list. refl)
    (λ list chain serves. let known = serves.known in e.value known.on.read.told known.on.shares.agrees old.header.shape list known.on.read.sound known.remembers known.stand)
    (λ named other is. shares_rotten fps found new.reply named other e.kind is)
    (λ answer leaves is. foreign_leaves new.reply ((new.shelf ≡ c.args.shelf.now) × (new.disk ≡ old.disk)) e.untouched answer leaves is)
    (gives_plain old.header.shape (requests.GetShares c.args.user fps) new.reply _ e.kind (shares_plain c.args.user fps found))
    (λ answer adds. adds)

pub returns-in-Ok-clause-hashed : goal.returns-in-Ok-clause-hashed
returns-in-Ok-clause-hashed g c = λ answer is. are_asked c.shares_on_disk.new.reply c.args.fps.now c.in-Ok.ensures.hashed answer is

pub shut-requires : goal.shut-requires
shut-requires g c = record { settled = (ready_after c.args.store.now c.shares_on_disk.new.disk _ _ c.in-Err.ensures.disk c.requires.ready).settled }

pub returns-in-Err-clause-does : goal.returns-in-Err-clause-does
returns-in-Err-clause-does g c =
    let old = c.args.store.now in let at = g.V.Shelf.cloud_at in let faults = g.V.Shelf.faults in
    let new = c.shares_on_disk.new in let e = c.in-Err.ensures in
    was_failed (new.shelf ≡ c.args.shelf.now) old new.disk (at c.args.shelf.now) (at new.shelf) (faults c.args.shelf.now) (faults new.shelf) (requests.GetShares c.args.user c.args.fps.now) new.reply
    c.requires.ready e.disk e.stays e.call c.shut.new.self e.failed c.shut.ensures.same c.shut.ensures.settled c.shut.ensures.shut
