use Rattle.fresh_checkpoints.proofs.Fresh.{holds, placed}
use Rattle.fresh_checkpoints.proofs.laws.law_of_fresh_checkpoints.Goals as goal

pub returns : goal.returns
returns c = record {
  holds = λ header image list c commands region memory f. holds header image list commands region memory f c;
  placed = placed;
}
