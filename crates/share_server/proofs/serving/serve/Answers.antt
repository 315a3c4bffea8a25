use Rattle.std.proofs.Common.{refl, arith, inl, inr}
use Rattle.server_requests.specs.Messages.reply.Reply.TheVariants as replies
use Rattle.server_requests.specs.Asking.{request_of}
use Rattle.share_server.proofs.Bounds.{reply_fits}
use Rattle.share_server.proofs.Executed.{served_does, cut_does, served_images}
use Rattle.share_server.proofs.Refusing.{not_damaged, fault_not_damaged, fault_not_rotten, fault_leaves, fault_answered, fault_hashed, hashed_now}
use Rattle.blob_copy.specs.CloudOpening.CloudMemory.Rooms.{memory_of}
use Rattle.share_server.proofs.serving.serve.Goals as goal

pub returns-in-Ok-clause-does : goal.returns-in-Ok-clause-does
returns-in-Ok-clause-does g c p serving =
    let old = c.args.store.now in let number = old.header.cloud.0 in let d = c.in-Ok.ensures.does in
    let c0 = g.V.Shelf.cloud_at c.args.shelf.now number in let c1 = g.V.Shelf.cloud_at c.dispatch.new.shelf number in
    let some = serving.ready c.requires.«open» in
    let settled = c.requires.kept.settled in let below = settled.header.cloud in let few = old.header.shape.few in
    let r = request_of c.args.asked.now in
    served_does old c.dispatch.new.store c0 c1 p r c.dispatch.new.reply serving d.header d.call.later d.call.armings d.ready.at_end
    (reply_fits old.header.shape old.header.rooms p.list some.serves.known.within settled.header.rooms number r some.serves.known.on.read.sound (omega arith) c.requires.fits c.requires.has)
    (d.served p.list some)

pub returns-in-Ok-clause-images : goal.returns-in-Ok-clause-images
returns-in-Ok-clause-images g c p serving =
    let old = c.args.store.now in let number = old.header.cloud.0 in
    let c0 = g.V.Shelf.cloud_at c.args.shelf.now number in let c1 = g.V.Shelf.cloud_at c.dispatch.new.shelf number in
    served_images old c0 c1 p (request_of c.args.asked.now) (c.in-Ok.ensures.does.any_moment p.list (serving.ready c.requires.«open»))

pub returns-in-Err-clause-does : goal.returns-in-Err-clause-does
returns-in-Err-clause-does g c p serving =
    let old = c.args.store.now in let number = old.header.cloud.0 in let d = c.in-Err.ensures.does in
    let c0 = g.V.Shelf.cloud_at c.args.shelf.now number in let c1 = g.V.Shelf.cloud_at c.dispatch.new.shelf number in
    cut_does old c.dispatch.new.store c0 c1 p (request_of c.args.asked.now) c.write_fault.new.out serving d.header d.call.later d.call.armings
    d.shut d.failed.cloud (d.any_moment p.list (serving.ready c.requires.«open»)) c.write_fault.ensures.is

pub returns-in-Err-clause-images : goal.returns-in-Err-clause-images
returns-in-Err-clause-images g c p serving =
    let old = c.args.store.now in let number = old.header.cloud.0 in
    let c0 = g.V.Shelf.cloud_at c.args.shelf.now number in let c1 = g.V.Shelf.cloud_at c.dispatch.new.shelf number in
    served_images old c0 c1 p (request_of c.args.asked.now) (c.in-Err.ensures.does.any_moment p.list (serving.ready c.requires.«open»))

pub returns-in-Ok-clause-stays : goal.returns-in-Ok-clause-stays
returns-in-Ok-clause-stays g c list some none = (let both = c.in-Ok.ensures.does.stays list some none in (both.cloud, both.memory))

pub returns-in-Err-clause-stays : goal.returns-in-Err-clause-stays
returns-in-Err-clause-stays g c list some none = (let both = c.in-Err.ensures.does.stays list some none in (both.cloud, both.memory))

pub returns-in-Ok-clause-undamaged : goal.returns-in-Ok-clause-undamaged
returns-in-Ok-clause-undamaged g c at byte damaged =
    let kind = c.in-Ok.ensures.does.kind in
    not_damaged c.dispatch.new.reply kind.reply at byte kind.given.damaged kind.is.spelled damaged.spelled

pub returns-in-Err-clause-undamaged : goal.returns-in-Err-clause-undamaged
returns-in-Err-clause-undamaged g c at byte damaged = fault_not_damaged c.write_fault.new.out at byte c.write_fault.ensures.is damaged

pub returns-in-Err-clause-rotten : goal.returns-in-Err-clause-rotten
returns-in-Err-clause-rotten g c named found rotten = absurd (fault_not_rotten c.write_fault.new.out named found c.write_fault.ensures.is rotten)

pub returns-in-Err-clause-found : goal.returns-in-Err-clause-found
returns-in-Err-clause-found g c named found rotten = absurd (fault_not_rotten c.write_fault.new.out named found c.write_fault.ensures.is rotten)

pub returns-in-Err-clause-untouched : goal.returns-in-Err-clause-untouched
returns-in-Err-clause-untouched g c answer leaves is = absurd (fault_leaves c.write_fault.new.out (request_of c.args.asked.now) answer leaves c.write_fault.ensures.is is)

pub returns-in-Ok-clause-answered : goal.returns-in-Ok-clause-answered
returns-in-Ok-clause-answered g c =
    let d = c.in-Ok.ensures.does in let kind = d.kind in
    (kind.reply, kind.is, kind.given.kind, kind.given.memory, λ fault. absurd (kind.given.fault fault), λ other. d.uncounted)

pub returns-in-Err-clause-answered : goal.returns-in-Err-clause-answered
returns-in-Err-clause-answered g c =
    let old = c.args.store.now in let number = old.header.cloud.0 in let d = c.in-Err.ensures.does in
    fault_answered old.header.shape (request_of c.args.asked.now) c.dispatch.new.store (g.V.Shelf.cloud_at c.args.shelf.now number) (g.V.Shelf.cloud_at c.dispatch.new.shelf number)
    (g.V.Shelf.faults c.args.shelf.now) (g.V.Shelf.faults c.dispatch.new.shelf) c.write_fault.new.out c.write_fault.ensures.is d.failed d.shut

pub returns-in-Ok-clause-behind : goal.returns-in-Ok-clause-behind
returns-in-Ok-clause-behind g c = (let d = c.in-Ok.ensures.does in record { behind = d.behind; steady = d.steady; stays_open = inr d.ready.at_end })

pub returns-in-Err-clause-behind : goal.returns-in-Err-clause-behind
returns-in-Err-clause-behind g c = (let d = c.in-Err.ensures.does in record { behind = d.behind; steady = d.steady; stays_open = inl d.failed.cloud })

pub returns-in-Ok-clause-enters : goal.returns-in-Ok-clause-enters
returns-in-Ok-clause-enters g c = (let e = c.in-Ok.ensures.enters in (e.reply, e.is, λ other. e.said))

pub returns-in-Err-clause-enters : goal.returns-in-Err-clause-enters
returns-in-Err-clause-enters g c = (replies.Fault, c.write_fault.ensures.is, λ other. absurd (other refl))

pub returns-in-Ok-clause-rotten_leaves : goal.returns-in-Ok-clause-rotten_leaves
returns-in-Ok-clause-rotten_leaves g c named found rotten = c.in-Ok.ensures.does.spared named found rotten

pub returns-in-Err-clause-rotten_leaves : goal.returns-in-Err-clause-rotten_leaves
returns-in-Err-clause-rotten_leaves g c named found rotten = absurd (fault_not_rotten c.write_fault.new.out named found c.write_fault.ensures.is rotten)

pub returns-in-Ok-clause-hashed : goal.returns-in-Ok-clause-hashed
returns-in-Ok-clause-hashed g c answer is =
    let e = c.in-Ok.ensures.enters in
    hashed_now c.args.store.now.header (memory_of c.args.store.now.memory) (memory_of c.dispatch.new.store.memory) (request_of c.args.asked.now) answer e.reply e.said
    (c.in-Ok.ensures.hashed answer is)

pub returns-in-Err-clause-hashed : goal.returns-in-Err-clause-hashed
returns-in-Err-clause-hashed g c answer is =
    fault_hashed (memory_of c.dispatch.new.store.memory) (request_of c.args.asked.now) c.write_fault.new.out answer c.write_fault.ensures.is is

pub returns-in-Ok-clause-grown : goal.returns-in-Ok-clause-grown
returns-in-Ok-clause-grown g c told w ended = inr (c.in-Ok.ensures.does.grown told w ended)

pub returns-in-Err-clause-grown : goal.returns-in-Err-clause-grown
returns-in-Err-clause-grown g c told w ended = inl c.in-Err.ensures.does.failed.cloud
