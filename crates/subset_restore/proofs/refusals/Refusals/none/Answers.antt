use Rattle.subset_restore.proofs.Marks.{tracks_none}
use Rattle.subset_restore.proofs.refusals.Refusals.none.Goals as goal

pub returns : goal.returns
returns c = tracks_none
