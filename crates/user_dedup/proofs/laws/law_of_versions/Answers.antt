use Rattle.user_dedup.proofs.Deleting.{version_stays}
use Rattle.user_dedup.proofs.laws.law_of_versions.Goals as goal

pub returns : goal.returns
returns c = version_stays
