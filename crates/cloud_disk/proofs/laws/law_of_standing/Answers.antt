use Rattle.cloud_disk.proofs.Standing.{stands_on, images_on, used_on, start_on}
use Rattle.cloud_disk.proofs.laws.law_of_standing.Goals as goal

pub returns : goal.returns
returns c = record { stands = stands_on; images = images_on; used = used_on; start = start_on }
