use Rattle.std.proofs.Common.{refl, ◌∙◌, arith}
use Rattle.checkpoints.proofs.chains.chain_below.Goals as goal

pub loop-at-init : goal.loop-at-init
loop-at-init c = record { chained = c.requires.none; within = omega arith; users = refl; slots = refl }

pub loop-at-preserved : goal.loop-at-preserved
loop-at-preserved c = record {
  chained = c.chain_slot.ensures.chained c.args.count c.loop-at.invariant.within c.loop-at.invariant.chained;
  within = let within = c.loop-at.invariant.within in omega (arith, within);
  users = c.chain_slot.ensures.users ∙ c.loop-at.invariant.users;
  slots = c.chain_slot.ensures.slots ∙ c.loop-at.invariant.slots;
}
