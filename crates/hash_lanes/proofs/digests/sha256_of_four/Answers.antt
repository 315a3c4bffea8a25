use Rattle.std.proofs.Common.{arith}
use Rattle.hash_lanes.proofs.Runs.{lane_begun, lane_on}
use Rattle.hash_lanes.proofs.digests.sha256_of_four.Goals as goal

pub blocks-2-init : goal.blocks-2-init
blocks-2-init c = (
  lane_begun c.args.first.now _ _ _ _ c.tail_of-tail0.ensures (c.initial_states-state.ensures 0 (omega arith)),
  lane_begun c.args.second.now _ _ _ _ c.tail_of-tail1.ensures (c.initial_states-state.ensures 1 (omega arith)),
  lane_begun c.args.third.now _ _ _ _ c.tail_of-tail2.ensures (c.initial_states-state.ensures 2 (omega arith)),
  lane_begun c.args.fourth.now _ _ _ _ c.tail_of-tail3.ensures (c.initial_states-state.ensures 3 (omega arith)),
)

pub blocks-2-preserved : goal.blocks-2-preserved
blocks-2-preserved c = (
  lane_on c.args.first.now _ _ _ _ _ _ _ c.blocks-2.t c.tail_of-tail0.ensures c.blocks-2.invariant.0 c.block_at-block0.ensures.block
      (c.compress-next.ensures 0 (omega arith)) c.digest_at-next0.ensures.ended c.digest_at-next0.ensures.kept,
  lane_on c.args.second.now _ _ _ _ _ _ _ c.blocks-2.t c.tail_of-tail1.ensures c.blocks-2.invariant.1 c.block_at-block1.ensures.block
      (c.compress-next.ensures 1 (omega arith)) c.digest_at-next1.ensures.ended c.digest_at-next1.ensures.kept,
  lane_on c.args.third.now _ _ _ _ _ _ _ c.blocks-2.t c.tail_of-tail2.ensures c.blocks-2.invariant.2 c.block_at-block2.ensures.block
      (c.compress-next.ensures 2 (omega arith)) c.digest_at-next2.ensures.ended c.digest_at-next2.ensures.kept,
  lane_on c.args.fourth.now _ _ _ _ _ _ _ c.blocks-2.t c.tail_of-tail3.ensures c.blocks-2.invariant.3 c.block_at-block3.ensures.block
      (c.compress-next.ensures 3 (omega arith)) c.digest_at-next3.ensures.ended c.digest_at-next3.ensures.kept,
)

pub returns-clause-first : goal.returns-clause-first
returns-clause-first c = c.blocks-2.invariant.0.ended (omega arith)

pub returns-clause-second : goal.returns-clause-second
returns-clause-second c = c.blocks-2.invariant.1.ended (omega arith)

pub returns-clause-third : goal.returns-clause-third
returns-clause-third c = c.blocks-2.invariant.2.ended (omega arith)

pub returns-clause-fourth : goal.returns-clause-fourth
returns-clause-fourth c = c.blocks-2.invariant.3.ended (omega arith)
