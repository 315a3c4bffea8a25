use Rattle.compact_lists.specs.CdBase.ids.Fp.{Fp}
use Rattle.compact_lists.specs.CdBase.place.Place.{Place}
use Rattle.compact_memories.specs.Kept.{live_at}
use Rattle.compact_memories.proofs.Summing.{SumsTo}
use Rattle.compact_memories.proofs.alive.live_shares.Given as goal

abbrev pub invariant-loop-slot : goal.invariant-loop-slot
invariant-loop-slot l = SumsTo (live_at l.memory.shares.owners) (λ (x : Fp × Place). x.1.len) l.memory.shares.place_slots l.slot l.sum
