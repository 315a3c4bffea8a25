use Rattle.std.proofs.Common.{rules, Err, ap, subst}
use Rattle.server_reads.specs.FileIndex.Files.{key_of}
use Rattle.server_reads.specs.Messages.Requests.{FitsRequest}
use Rattle.server_reads.specs.Messages.request.Request.TheVariants as requests
use Rattle.server_reads.specs.Messages.reply.Reply.TheVariants as replies
use Rattle.server_reads.specs.UserDedup.command.Command.TheVariants as commands
use Rattle.cloud_store.specs.declared.store.Unadded.{Unadded}
use Rattle.server_reads.specs.CloudMemory.Rooms.{memory_of}
use Rattle.cloud_store.specs.Adding.{NotLong, WhenLong, Unmoved}
use Rattle.server_commands.proofs.Calls.{ok_result, failed_result}
use Rattle.server_commands.proofs.Doing.{adds_does}
use Rattle.server_commands.proofs.Deletions.{deleted_served, is_delete}
use Rattle.server_commands.proofs.Enterings.{full_forgets}
use Rattle.cloud_store.specs.RecordBody.Spelling as bodies
use Rattle.cloud_store.specs.RecordBody.Spelling.{body_bytes}
use Rattle.server_commands.proofs.Grown.{read_added}
use Rattle.server_commands.proofs.deleting.forget.Goals as goal

pub returns-in-Ok-clause-does : goal.returns-in-Ok-clause-does
returns-in-Ok-clause-does g c = λ list chain file serves at same.
    let old = c.args.store.now in let user = c.args.user in let tag = c.args.tag in let version = c.args.version in
    let before = g.V.Shelf.cloud_at c.args.shelf.now old.header.cloud.0 in let after = g.V.Shelf.cloud_at c.add_delete.new.shelf old.header.cloud.0 in
    let fits : FitsRequest (requests.Delete user tag version) = search rules in
    let is = is_delete old list user tag version chain before file c.args.recipe.now serves fits at same c.requires.ready.none in
    adds_does old _ before after list (requests.Delete user tag version) replies.Deleted (commands.Delete user tag version) (deleted_served old list user tag version file at)
    c.write_deleted.new.out ok_result c.write_deleted.ensures.spelled (c.add_delete.ensures.any_moment list chain file is)
    (record { c = _; serves = c.in-Ok.ensures.added list chain file is })

pub returns-in-Err-Long-clause-does : goal.returns-in-Err-Long-clause-does
returns-in-Err-Long-clause-does g c = λ list chain file serves at same.
    absurd (subst (λ (why : Unadded). NotLong (Err why)) c.in-Err-Long.field-0-is c.in-Err-Long.ensures.never_long)

pub returns-in-Err-Failed-clause-does : goal.returns-in-Err-Failed-clause-does
returns-in-Err-Failed-clause-does g c = λ list chain file serves at same.
    let old = c.args.store.now in let user = c.args.user in let tag = c.args.tag in let version = c.args.version in
    let before = g.V.Shelf.cloud_at c.args.shelf.now old.header.cloud.0 in let after = g.V.Shelf.cloud_at c.add_delete.new.shelf old.header.cloud.0 in
    let fits : FitsRequest (requests.Delete user tag version) = search rules in
    let is = is_delete old list user tag version chain before file c.args.recipe.now serves fits at same c.requires.ready.none in
    adds_does old _ before after list (requests.Delete user tag version) replies.Deleted (commands.Delete user tag version) (deleted_served old list user tag version file at)
    c.args.reply.now failed_result tt (c.add_delete.ensures.any_moment list chain file is) tt

pub returns-in-Ok-clause-forgets : goal.returns-in-Ok-clause-forgets
returns-in-Ok-clause-forgets g c = record { reply = replies.Deleted; is = c.write_deleted.ensures; said = c.in-Ok.ensures.taken }

pub returns-in-Err-Long-clause-forgets : goal.returns-in-Err-Long-clause-forgets
returns-in-Err-Long-clause-forgets g c =
    let old = c.args.store.now in let new = c.add_delete.new.self in
    let u = subst (λ (why : Unadded). WhenLong (Err why) (Unmoved old new)) c.in-Err-Long.field-0-is c.in-Err-Long.ensures.unmoved in
    full_forgets old.header.shape (memory_of old.memory) (memory_of new.memory) c.args.user (key_of c.args.user.0 c.args.tag.0 c.args.version.0) c.args.recipe.now c.refuse_long.new.reply _ _ _
    (ap memory_of u.memory) c.refuse_long.ensures

pub returns-in-Ok-clause-goes : goal.returns-in-Ok-clause-goes
returns-in-Ok-clause-goes g c told w ended =
    let old = c.args.store.now in let number = old.header.cloud.0 in
    read_added w old c.add_delete.new.self (body_bytes (bodies.Delete (record { user = c.args.user; tag = c.args.tag; version = c.args.version }))) (g.V.Shelf.cloud_at c.args.shelf.now number) (g.V.Shelf.cloud_at c.add_delete.new.shelf number)
    _ (c.in-Ok.ensures.grown told w ended)

pub returns-in-Err-Long-clause-goes : goal.returns-in-Err-Long-clause-goes
returns-in-Err-Long-clause-goes g c told w ended = absurd (subst (λ (why : Unadded). NotLong (Err why)) c.in-Err-Long.field-0-is c.in-Err-Long.ensures.never_long)
