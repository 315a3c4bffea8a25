use Rattle.cloud_disk.proofs.Standing.{none_staged}
use Rattle.cloud_disk.proofs.laws.law_of_nothing_staged.Goals as goal

pub returns : goal.returns
returns c = none_staged
