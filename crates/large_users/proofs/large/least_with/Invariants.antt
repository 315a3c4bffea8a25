use Rattle.compact_memories.specs.FileIndex.key.FileKey.{FileKey}
use Rattle.large_users.specs.Counting.{AreSeen, IsUserFound}
use Rattle.large_users.specs.Large.{OfEach, IsEntrySized}
use Rattle.large_users.proofs.large.least_with.Given as goal

abbrev pub invariant-loop-slot : goal.invariant-loop-slot
invariant-loop-slot l = record {
  seen : AreSeen (λ (k : FileKey). k.user) l.from l.files.slots l.slot l.least;
  found : IsUserFound (λ (k : FileKey). k.user) l.from l.files.slots l.least;
  sized : OfEach IsEntrySized l.files.slots l.slot;
}
