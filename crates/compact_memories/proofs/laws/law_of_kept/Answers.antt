use Rattle.compact_memories.proofs.Keeping.{kept, past, stays, moved}
use Rattle.compact_memories.proofs.Numbers.{numbers}
use Rattle.compact_memories.proofs.laws.law_of_kept.Goals as goal

pub returns : goal.returns
returns c = record { kept = kept; numbers = numbers; past = past; stays = stays; moved = moved }
