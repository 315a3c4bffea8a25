use Rattle.compact_memories.proofs.Copies.{lie, apart, bound, ends}
use Rattle.compact_memories.proofs.laws.law_of_copies.Goals as goal

pub returns : goal.returns
returns c = record { lie = lie; apart = apart; bound = bound; ends = ends }
