use Rattle.compact_memories.proofs.Lying.{places_lie}
use Rattle.compact_memories.proofs.laws.law_of_moved_places.Goals as goal

pub returns : goal.returns
returns c = places_lie
