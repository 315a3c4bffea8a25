use Rattle.std.proofs.Common.{arith}
use Rattle.sha2.specs.Sha256.{padding}
use Rattle.hash_lanes.proofs.Tails.{whole_block, first_behind, second_behind}
use Rattle.hash_lanes.proofs.message.block_at.Goals as goal

pub returns-then-t-whole-clause-block : goal.returns-then-t-whole-clause-block
returns-then-t-whole-clause-block c = λ lt. whole_block c.args.message.now (padding _) c.args.t _ (omega arith) (omega (arith, c.if-t-whole.true))

pub returns-then-t-whole-2-clause-block : goal.returns-then-t-whole-2-clause-block
returns-then-t-whole-2-clause-block c = λ lt. first_behind c.args.message.now c.args.tail.now.bytes c.args.tail.now.blocks c.args.t c.requires c.if-t-whole-2.true

pub returns-clause-block : goal.returns-clause-block
returns-clause-block c = λ lt. second_behind c.args.message.now c.args.tail.now.bytes c.args.tail.now.blocks c.args.t c.requires (omega (arith, c.requires.most)) lt
