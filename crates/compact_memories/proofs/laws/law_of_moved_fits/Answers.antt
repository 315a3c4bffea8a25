use Rattle.compact_memories.proofs.Fits.{moved_fits}
use Rattle.compact_memories.proofs.laws.law_of_moved_fits.Goals as goal

pub returns : goal.returns
returns c = moved_fits
