use Rattle.std.proofs.Common.{List, ℕ, ap, ◌∙◌}
use Rattle.messages.specs.declared.reply.Reply.TheVariants as replies
use Rattle.messages.specs.Replies.{reply_bytes}
use Rattle.cloud_memory.specs.Rooms.{memory_of}
use Rattle.server_reads.proofs.Marks.{known_bytes, known_kind}
use Rattle.server_reads.proofs.Unowned.{flags_are}
use Rattle.server_reads.proofs.owning.known.Goals as goal

pub returns-clause-kept : goal.returns-clause-kept
returns-clause-kept c =
    known_bytes (memory_of c.args.memory.now) c.args.user c.args.fps.now c.begin_known.new.out c.put_marks.new.reply c.len.result c.put_marks.ensures c.begin_known.ensures.value c.len.ensures

pub returns-clause-value : goal.returns-clause-value
returns-clause-value c = λ shape cloud list is.
    returns-clause-kept c ∙ ap (λ (l : List ℕ). reply_bytes (replies.Known l)) (flags_are shape list (memory_of c.args.memory.now) c.args.user c.args.fps.now is)

pub returns-clause-kind : goal.returns-clause-kind
returns-clause-kind c = known_kind (memory_of c.args.memory.now) c.args.user c.args.fps.now c.put_marks.new.reply (returns-clause-kept c) c.requires
