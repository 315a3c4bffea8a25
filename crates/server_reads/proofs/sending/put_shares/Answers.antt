use Rattle.std.proofs.Common.{◌≡◌, List, Err}
use Rattle.messages.specs.declared.reply.Reply.TheVariants as replies
use Rattle.messages.specs.Replies.{reply_bytes}
use Rattle.cloud_memory.specs.UserDedup.command.Command.{Command}
use Rattle.cloud_memory.specs.Rooms.{memory_of}
use Rattle.server_reads.specs.Reading.{IfRotten}
use Rattle.server_reads.proofs.Along.{strings_for}
use Rattle.server_reads.proofs.Calling.{Answer}
use Rattle.server_reads.proofs.Trying.{tried_keeps, held_before}
use Rattle.server_reads.proofs.sending.put_shares.Goals as goal

pub returns-in-Ok-true-clause-held : goal.returns-in-Ok-true-clause-held
returns-in-Ok-true-clause-held g c = λ told agreed shape cloud list user k own.
    c.in-Ok-true.ensures.held told agreed shape cloud list user k own c.in-Ok-true.field-0-test

pub returns-in-Ok-clause-held : goal.returns-in-Ok-clause-held
returns-in-Ok-clause-held g c = λ told agreed shape cloud list user k own.
    let at = g.V.Shelf.cloud_at in
    let first = c.in-Ok-false.ensures in
    let keeps = tried_keeps (at c.args.shelf.now) (at c.put_together.new.shelf) c.args.cloud.0 _ _ _ first.tried in
    held_before (at c.args.shelf.now c.args.cloud.0) (at c.put_together.new.shelf c.args.cloud.0) (memory_of c.args.memory.now) c.args.fps.now
    (λ (l : List Command). c.put_one_by_one.new.reply ≡ reply_bytes (replies.Shares (strings_for l c.args.fps.now))) keeps
    (λ again. c.in-Ok.ensures.held again (first.log.agrees told agreed)) told shape cloud list user k own

pub returns-in-Err-put_one_by_one-clause-whole : goal.returns-in-Err-put_one_by_one-clause-whole
returns-in-Err-put_one_by_one-clause-whole g c = λ told shape cloud list user k own.
    let at = g.V.Shelf.cloud_at in
    let keeps = tried_keeps (at c.args.shelf.now) (at c.put_together.new.shelf) c.args.cloud.0 _ _ _ c.in-Ok-false.ensures.tried in
    let stopped : Answer = Err c.in-Err-put_one_by_one.stop in
    held_before (at c.args.shelf.now c.args.cloud.0) (at c.put_together.new.shelf c.args.cloud.0) (memory_of c.args.memory.now) c.args.fps.now
    (λ (l : List Command). IfRotten stopped (λ named found. ⊥)) keeps c.in-Err-put_one_by_one.ensures.whole told shape cloud list user k own
