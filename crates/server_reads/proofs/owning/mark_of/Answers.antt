use Rattle.std.proofs.Common.{ap, sym, ◌∙◌, cond}
use Rattle.cloud_memory.specs.Rooms.{memory_of}
use Rattle.server_reads.specs.Owned.{is_owned}
use Rattle.server_reads.proofs.Unowned.{same_test}
use Rattle.server_reads.proofs.owning.mark_of.Goals as goal

pub returns-then-owns : goal.returns-then-owns
returns-then-owns c = ap (λ b. cond b 1 0) (sym c.if-owns.true ∙ same_test c.owns.result (is_owned (memory_of c.args.memory.now) c.args.user c.args.fp.now) c.owns.ensures.kept)

pub returns-else-owns : goal.returns-else-owns
returns-else-owns c = ap (λ b. cond b 1 0) (sym c.if-owns.false ∙ same_test c.owns.result (is_owned (memory_of c.args.memory.now) c.args.user c.args.fp.now) c.owns.ensures.kept)
