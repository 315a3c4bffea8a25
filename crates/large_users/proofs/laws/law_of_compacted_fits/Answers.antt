use Rattle.large_users.proofs.CompactFits.{compacted_fits}
use Rattle.large_users.proofs.laws.law_of_compacted_fits.Goals as goal

pub returns : goal.returns
returns c old new l fit is = compacted_fits old new l fit is
