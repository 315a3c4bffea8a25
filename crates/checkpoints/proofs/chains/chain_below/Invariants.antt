use Rattle.std.proofs.Common.{◌≡◌, ◌≤◌, length}
use Rattle.checkpoints.specs.Chained.{AreChained}
use Rattle.checkpoints.proofs.chains.chain_below.Given as goal

abbrev pub invariant-loop-at : goal.invariant-loop-at
invariant-loop-at l = record {
  chained : AreChained l.shares.owner_slots l.firsts l.nexts l.count l.at;
  within : l.at ≤ l.count;
  users : length l.firsts ≡ length l.fn.firsts;
  slots : length l.nexts ≡ length l.fn.nexts;
}

abbrev pub decreases-loop-at : goal.decreases-loop-at
decreases-loop-at l = l.at
