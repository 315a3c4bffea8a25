use Rattle.std.proofs.Common.{◌≡◌, ◌≤◌, length, Err, IsSome, refl, sym, ap, ◌∙◌, subst, arith, length-take}
use Rattle.server_reads.specs.CdBase.Limits.{recipe_limit}
use Rattle.server_reads.specs.Messages.reply.Reply.TheVariants as replies
use Rattle.server_reads.specs.UserDedup.Cloud.{fingerprint}
use Rattle.std.specs.FinMap.{get}
use Rattle.server_reads.specs.FileIndex.Files.{key_of}
use Rattle.server_reads.specs.CloudMemory.Rooms.{memory_of}
use Rattle.cloud_store.specs.declared.store.CloudStore.{CloudStore}
use Rattle.server_reads.specs.declared.blobs.BlobStop.{BlobStop}
use Rattle.server_reads.specs.Reading.{HasReadCloud}
use Rattle.server_reads.proofs.Spelled.{rotten_is}
use Rattle.server_commands.proofs.Reread.{ready_read}
use Rattle.server_commands.proofs.Deleted.{deleted, failed, rotten}
use Rattle.server_commands.proofs.Enterings.{forgotten}
use Rattle.server_commands.proofs.deleting.delete_entry.Goals as goal

pub forget-requires-clause-ready : goal.forget-requires-clause-ready
forget-requires-clause-ready g c = ready_read c.args.store.now c.read_entry.new.store _ _ c.in-Ok.ensures.store c.requires.ready

pub forget-requires-clause-there : goal.forget-requires-clause-there
forget-requires-clause-there g c =
    subst (λ (x : CloudStore). IsSome (get (memory_of x.memory).files (key_of c.args.user.0 c.args.tag.0 c.args.version.0))) (sym c.in-Ok.ensures.store.same)
    (subst (λ o. IsSome o) (sym c.requires.there) refl)

pub returns-in-Ok-clause-does : goal.returns-in-Ok-clause-does
returns-in-Ok-clause-does g c =
    let old = c.args.store.now in let at = g.V.Shelf.cloud_at in let faults = g.V.Shelf.faults in
    deleted c.args.user c.args.tag c.args.version (c.forget.new.shelf ≡ c.args.shelf.now) old c.read_entry.new.store c.forget.new.store
    (at c.args.shelf.now) (at c.read_entry.new.shelf) (at c.forget.new.shelf) (faults c.args.shelf.now) (faults c.read_entry.new.shelf) (faults c.forget.new.shelf) _ c.forget.new.reply
    c.forget.result c.split_at.result.0.now c.args.entry.now c.requires.ready c.requires.there c.in-Ok.ensures.store c.in-Ok.ensures.reads
    (λ list chain serves. c.in-Ok.ensures.there list chain c.args.user c.args.tag c.args.version serves c.requires.there)
    c.split_at.ensures.front
    (record { leaves = c.forget.ensures.leaves; does = c.forget.ensures.does; behind = c.forget.ensures.behind; goes = c.forget.ensures.goes; some = c.forget.ensures.some; calls = c.forget.ensures.calls })

pub returns-in-Err-Failed-clause-does : goal.returns-in-Err-Failed-clause-does
returns-in-Err-Failed-clause-does g c =
    let old = c.args.store.now in let at = g.V.Shelf.cloud_at in let faults = g.V.Shelf.faults in
    failed c.args.user c.args.tag c.args.version (c.read_entry.new.shelf ≡ c.args.shelf.now) old c.read_entry.new.store
    (at c.args.shelf.now) (at c.read_entry.new.shelf) (faults c.args.shelf.now) (faults c.read_entry.new.shelf) c.args.reply.now c.in-Err-Failed.ensures.store c.requires.ready
    c.shut.new.self
    (subst (λ (stop : BlobStop). HasReadCloud {A = Unit {0}} (at c.args.shelf.now) (at c.read_entry.new.shelf) old.header.cloud.0 (faults c.args.shelf.now) (faults c.read_entry.new.shelf) (Err stop)) c.in-Err-Failed.field-0-is c.in-Err-Failed.ensures.reads)
    c.shut.ensures.same c.shut.ensures.settled c.shut.ensures.shut

pub returns-in-Err-Rotten-clause-does : goal.returns-in-Err-Rotten-clause-does
returns-in-Err-Rotten-clause-does g c =
    let old = c.args.store.now in let at = g.V.Shelf.cloud_at in let faults = g.V.Shelf.faults in
    rotten c.args.user c.args.tag c.args.version (c.read_entry.new.shelf ≡ c.args.shelf.now) old c.read_entry.new.store
    (at c.args.shelf.now) (at c.read_entry.new.shelf) (faults c.args.shelf.now) (faults c.read_entry.new.shelf) c.write_rotten.new.out c.in-Err-Rotten.ensures.store c.requires.ready
    c.in-Err-Rotten.field-0 c.in-Err-Rotten.named c.in-Err-Rotten.found _ c.in-Err-Rotten.field-0-is c.in-Err-Rotten.ensures.reads
    (λ list chain serves. c.in-Err-Rotten.ensures.there list chain c.args.user c.args.tag c.args.version serves c.requires.there)
    (c.in-Err-Rotten.ensures.rotten (memory_of old.memory) (key_of c.args.user.0 c.args.tag.0 c.args.version.0) c.requires.there)
    (rotten_is c.write_rotten.new.out _ _ c.in-Err-Rotten.named c.in-Err-Rotten.found c.write_rotten.ensures c.in-Err-Rotten.named-is c.in-Err-Rotten.found-is)

pub returns-in-Ok-clause-enters : goal.returns-in-Ok-clause-enters
returns-in-Ok-clause-enters g c =
    let old = c.args.store.now in let mid = c.read_entry.new.store in let recipe = c.split_at.result.0.now in
    let front = c.split_at.ensures.front in
    let long = ap length front in
    let fits : c.args.entry.now.len ≤ recipe_limit = c.in-Ok.ensures.fits.1 in
    forgotten c.forget.result old mid (memory_of c.forget.new.store.memory) c.args.user (key_of c.args.user.0 c.args.tag.0 c.args.version.0) recipe c.forget.new.reply c.args.entry.now
    (ap (λ (s : CloudStore). s.header) c.in-Ok.ensures.store.same) (ap (λ (s : CloudStore). memory_of s.memory) c.in-Ok.ensures.store.same) c.requires.there
    (omega (arith, long, fits, length-take c.args.entry.now.len c.read_entry.new.buffer)) (ap fingerprint front ∙ c.in-Ok.ensures.hashed) c.forget.ensures.forgets

pub returns-in-Err-Rotten-clause-enters : goal.returns-in-Err-Rotten-clause-enters
returns-in-Err-Rotten-clause-enters g c = record {
  reply = replies.Rotten c.in-Err-Rotten.named c.in-Err-Rotten.found;
  is = rotten_is c.write_rotten.new.out _ _ c.in-Err-Rotten.named c.in-Err-Rotten.found c.write_rotten.ensures c.in-Err-Rotten.named-is c.in-Err-Rotten.found-is;
  said = (subst (λ o. IsSome o) (sym c.requires.there) refl, ap (λ (s : CloudStore). memory_of s.memory) c.in-Err-Rotten.ensures.store.same);
}
