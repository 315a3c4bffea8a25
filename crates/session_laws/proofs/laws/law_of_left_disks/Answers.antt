use Rattle.session_laws.proofs.Leaving.{gives}
use Rattle.session_laws.proofs.laws.law_of_left_disks.Goals as goal

pub returns : goal.returns
returns c clouds new disks run named v is stand apart left = gives clouds new disks run named v is stand apart left
