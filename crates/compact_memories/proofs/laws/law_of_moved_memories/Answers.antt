use Rattle.compact_memories.proofs.Compacted.{like_remembers, compacted_like}
use Rattle.compact_memories.proofs.Moving.{moved_like}
use Rattle.compact_memories.proofs.laws.law_of_moved_memories.Goals as goal

pub returns : goal.returns
returns c = record {
  stays = λ shape cloud list old new sound r l is spent. like_remembers shape cloud list sound old new r l (compacted_like shape list old new r l is) spent;
  moved = λ shape cloud region list old new sound r l is spent. like_remembers shape cloud list sound old new r l (moved_like old l region new is) spent;
}
