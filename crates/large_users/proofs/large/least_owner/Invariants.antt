use Rattle.compact_memories.specs.ShareIndex.key.Owner.{Owner}
use Rattle.large_users.specs.Counting.{AreSeen, IsUserFound}
use Rattle.large_users.specs.Large.{OfEach, IsOwnerSized}
use Rattle.large_users.proofs.large.least_owner.Given as goal

abbrev pub invariant-loop-slot : goal.invariant-loop-slot
invariant-loop-slot l = record {
  seen : AreSeen (λ (k : Owner). k.user) l.from l.shares.owner_slots l.slot l.least;
  found : IsUserFound (λ (k : Owner). k.user) l.from l.shares.owner_slots l.least;
  sized : OfEach IsOwnerSized l.shares.owner_slots l.slot;
}
