use Rattle.std.proofs.Common.{sym, subst, Ok}
use Rattle.cloud_memory.specs.Memory.{Memory}
use Rattle.cloud_memory.specs.Rooms.{memory_of}
use Rattle.cloud_memory.specs.RecordBody.Spelling.{Spent as SpentRecord}
use Rattle.record_checks.specs.Judging.{JudgesBody, SpentPast, SpentTaken}
use Rattle.record_checks.proofs.Faults.{not_so}
use Rattle.record_checks.proofs.taking.take_spent.Goals as goal

pub returns-then-not-is_allowed-clause-judged : goal.returns-then-not-is_allowed-clause-judged
returns-then-not-is_allowed-clause-judged c = λ read. SpentPast c.args.spent.now (not_so c.is_allowed.result c.is_allowed.ensures c.if-not-is_allowed.true)

pub returns-clause-judged : goal.returns-clause-judged
returns-clause-judged c = λ read.
    subst (λ (m : Memory). JudgesBody c.args.ground.now c.args.inside read c.args.taking.now.spent (memory_of c.args.memory.now) (SpentRecord c.args.spent.now) (Ok m)) (sym c.take_spent.ensures.taken)
    (SpentTaken c.args.spent.now (c.is_allowed.ensures.0 c.if-not-is_allowed.false))
