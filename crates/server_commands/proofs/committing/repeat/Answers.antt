use Rattle.std.proofs.Common.{◌≡◌, ◌∙◌, Err, ap, subst}
use Rattle.server_reads.specs.UserDedup.Cloud.{fingerprint}
use Rattle.server_reads.specs.FileIndex.Files.{key_of}
use Rattle.server_reads.specs.CloudMemory.Rooms.{memory_of}
use Rattle.server_reads.specs.UserDedup.Requests.{fps_of}
use Rattle.cloud_store.specs.declared.store.CloudStore.{CloudStore}
use Rattle.server_reads.specs.declared.blobs.BlobStop.{BlobStop}
use Rattle.server_reads.specs.Reading.{HasReadCloud}
use Rattle.server_reads.proofs.Spelled.{rotten_is}
use Rattle.server_commands.proofs.Enterings.{compared_commits, rotten_commits}
use Rattle.server_commands.proofs.Repeats.{compared, unread, rotten}
use Rattle.server_commands.proofs.committing.repeat.Goals as goal

pub returns-in-Ok-clause-does : goal.returns-in-Ok-clause-does
returns-in-Ok-clause-does g c =
    let old = c.args.store.now in let at = g.V.Shelf.cloud_at in let faults = g.V.Shelf.faults in
    compared c.args.key.user c.args.key.tag c.args.key.version (c.read_entry.new.shelf ≡ c.args.shelf.now) old c.read_entry.new.store
    (at c.args.shelf.now) (at c.read_entry.new.shelf) (faults c.args.shelf.now) (faults c.read_entry.new.shelf) c.args.recipe.now c.put_compared.new.reply c.in-Ok.ensures.store c.requires.ready
    c.split_at.result.0.now _ c.args.entry.now c.requires.there c.requires.owned c.in-Ok.ensures.reads
    (λ list chain serves. c.in-Ok.ensures.there list chain c.args.key.user c.args.key.tag c.args.key.version serves c.requires.there)
    c.split_at.ensures.front c.put_compared.ensures

pub returns-in-Err-Failed-clause-does : goal.returns-in-Err-Failed-clause-does
returns-in-Err-Failed-clause-does g c =
    let old = c.args.store.now in let at = g.V.Shelf.cloud_at in let faults = g.V.Shelf.faults in
    unread c.args.key.user c.args.key.tag c.args.key.version (c.read_entry.new.shelf ≡ c.args.shelf.now) old c.read_entry.new.store
    (at c.args.shelf.now) (at c.read_entry.new.shelf) (faults c.args.shelf.now) (faults c.read_entry.new.shelf) c.args.recipe.now c.args.reply.now c.in-Err-Failed.ensures.store c.requires.ready
    c.shut.new.self
    (subst (λ (stop : BlobStop). HasReadCloud {A = Unit {0}} (at c.args.shelf.now) (at c.read_entry.new.shelf) old.header.cloud.0 (faults c.args.shelf.now) (faults c.read_entry.new.shelf) (Err stop)) c.in-Err-Failed.field-0-is c.in-Err-Failed.ensures.reads)
    c.shut.ensures.same c.shut.ensures.settled c.shut.ensures.shut

pub returns-in-Err-Rotten-clause-does : goal.returns-in-Err-Rotten-clause-does
returns-in-Err-Rotten-clause-does g c =
    let old = c.args.store.now in let at = g.V.Shelf.cloud_at in let faults = g.V.Shelf.faults in
    rotten c.args.key.user c.args.key.tag c.args.key.version (c.read_entry.new.shelf ≡ c.args.shelf.now) old c.read_entry.new.store
    (at c.args.shelf.now) (at c.read_entry.new.shelf) (faults c.args.shelf.now) (faults c.read_entry.new.shelf) c.args.recipe.now c.write_rotten.new.out c.in-Err-Rotten.ensures.store c.requires.ready
    c.in-Err-Rotten.field-0 c.in-Err-Rotten.named c.in-Err-Rotten.found _ c.args.entry.now c.requires.there c.in-Err-Rotten.field-0-is c.in-Err-Rotten.ensures.reads
    (λ list chain serves. c.in-Err-Rotten.ensures.there list chain c.args.key.user c.args.key.tag c.args.key.version serves c.requires.there)
    (c.in-Err-Rotten.ensures.rotten (memory_of old.memory) (key_of c.args.key.user.0 c.args.key.tag.0 c.args.key.version.0) c.requires.there)
    (rotten_is c.write_rotten.new.out _ _ c.in-Err-Rotten.named c.in-Err-Rotten.found c.write_rotten.ensures c.in-Err-Rotten.named-is c.in-Err-Rotten.found-is)

pub returns-in-Ok-clause-enters : goal.returns-in-Ok-clause-enters
returns-in-Ok-clause-enters g c =
    let old = c.args.store.now in
    compared_commits old.header.rooms (memory_of old.memory) (memory_of c.read_entry.new.store.memory) c.args.key.user c.args.key.tag c.args.key.version (fps_of old.header.shape c.args.recipe.now) c.args.recipe.now
    c.split_at.result.0.now c.put_compared.new.reply c.args.entry.now c.requires.there c.requires.owns (ap (λ (s : CloudStore). memory_of s.memory) c.in-Ok.ensures.store.same)
    (ap fingerprint c.split_at.ensures.front ∙ c.in-Ok.ensures.hashed) c.put_compared.ensures

pub returns-in-Err-Rotten-clause-enters : goal.returns-in-Err-Rotten-clause-enters
returns-in-Err-Rotten-clause-enters g c =
    let old = c.args.store.now in
    rotten_commits old.header.rooms (memory_of old.memory) (memory_of c.read_entry.new.store.memory) c.args.key.user c.args.key.tag c.args.key.version (fps_of old.header.shape c.args.recipe.now) c.args.recipe.now
    c.write_rotten.new.out c.args.entry.now c.in-Err-Rotten.named c.in-Err-Rotten.found c.requires.there c.requires.owns (ap (λ (s : CloudStore). memory_of s.memory) c.in-Err-Rotten.ensures.store.same)
    (rotten_is c.write_rotten.new.out _ _ c.in-Err-Rotten.named c.in-Err-Rotten.found c.write_rotten.ensures c.in-Err-Rotten.named-is c.in-Err-Rotten.found-is)
