use Rattle.std.proofs.Common.{None, sym, arith}
use Rattle.checkpoints.specs.Records.{commit_at}
use Rattle.checkpoints.proofs.Picks.{passes, finds}
use Rattle.checkpoints.proofs.entries.next_commit.Goals as goal

pub returns-in-Some-clause-next : goal.returns-in-Some-clause-next
returns-in-Some-clause-next c =
    finds commit_at c.args.files.now.slots c.args.from c.loop-slot.slot None c.loop-slot.invariant
    (let more = c.loop-slot-test.true in omega (arith, more, c.slots-slot-end.ensures)) c.in-Some.commit (sym c.in-Some.ensures.commit)

pub loop-slot-preserved : goal.loop-slot-preserved
loop-slot-preserved c =
    passes commit_at c.args.files.now.slots c.args.from c.loop-slot.slot None c.loop-slot.invariant
    (let more = c.loop-slot-test.true in omega (arith, more, c.slots-slot-end.ensures)) (sym c.in-None.ensures.commit)
