use Rattle.std.proofs.Common.{arith}
use Rattle.cloud_memory.specs.Steps.{held_len}
use Rattle.cloud_memory.proofs.Holding.{holding_more, holding_all}
use Rattle.cloud_memory.proofs.cloud.CloudMemory.held_lens.Goals as goal

pub loop-new-preserved : goal.loop-new-preserved
loop-new-preserved c =
    holding_more (held_len c.args.self.now.shares.places) 4294967296 c.args.news.now c.loop-new.new-index c.loop-new.sum c.held_len-sum.result _ c.loop-new-test.true
    c.loop-new.invariant c.held_len-sum.ensures.len (omega (arith, c.held_len-sum.ensures.small))

pub returns-clause-sum : goal.returns-clause-sum
returns-clause-sum c =
    holding_all (held_len c.args.self.now.shares.places) 4294967296 c.args.news.now c.loop-new.new-index c.loop-new.sum c.loop-new-test.false c.loop-new.invariant
