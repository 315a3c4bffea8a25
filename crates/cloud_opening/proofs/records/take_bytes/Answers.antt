use Rattle.std.proofs.Common.{arith}
use Rattle.cloud_disk.proofs.RecordBody.BodyLaws.{body_law}
use Rattle.record_laws.specs.RecordChecks.CloudMemory.Rooms.{memory_of}
use Rattle.cloud_opening.proofs.Traced.{traced_next}
use Rattle.cloud_opening.proofs.records.take_bytes.Goals as goal

pub returns-in-Ok-clause-traced : goal.returns-in-Ok-clause-traced
returns-in-Ok-clause-traced c traced =
    traced_next c.args.ground.now c.args.inside c.args.read.now c.args.taking.now.spent (memory_of c.args.memory.now) c.args.at c.args.body.now c.args.taking.now traced
    (λ b is. ((body_law c.args.body.now b (λ i. omega (arith, c.type_inv.body i))).0 is).fits) (memory_of c.take.new.memory) c.take.new.taking c.in-Ok.ensures.judged c.in-Ok.ensures.noted
