use Rattle.std.proofs.Common.{arith}
use Rattle.cloud_memory.specs.Rooms.{memory_of}
use Rattle.cloud_memory.proofs.Holding.{holding_more, holding_all}
use Rattle.cloud_memory.proofs.PutLength.{bytes_of, put_long}
use Rattle.cloud_memory.proofs.cloud.CloudMemory.put_len.Goals as goal

pub loop-new-preserved : goal.loop-new-preserved
loop-new-preserved c =
    holding_more (bytes_of c.args.self.now.shares.places) 45 c.args.news.now c.loop-new.new-index c.loop-new.sum c.part_len-sum.result _ c.loop-new-test.true
    c.loop-new.invariant c.part_len-sum.ensures.len c.part_len-sum.ensures.small

pub returns-clause-len : goal.returns-clause-len
returns-clause-len c = λ user new.
    let sum = holding_all (bytes_of c.args.self.now.shares.places) 45 c.args.news.now c.loop-new.new-index c.loop-new.sum c.loop-new-test.false c.loop-new.invariant in
    let long = put_long (memory_of c.args.self.now) user c.args.news.now new.apart in
    omega (arith, sum, long)
