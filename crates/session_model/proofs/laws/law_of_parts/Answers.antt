use Rattle.session_model.proofs.Parts.{part_of_finish, part_of_get}
use Rattle.session_model.proofs.Unmoved.{unmoved}
use Rattle.session_model.proofs.Stopped.{part_of_rebuild}
use Rattle.session_model.proofs.laws.law_of_parts.Goals as goal

pub returns-clause-finish : goal.returns-clause-finish
returns-clause-finish c = part_of_finish

pub returns-clause-get : goal.returns-clause-get
returns-clause-get c s old user path version clouds are = part_of_get s old user path version clouds are

pub returns-clause-rebuild : goal.returns-clause-rebuild
returns-clause-rebuild c s old user target from turns at are apart executes own cut = part_of_rebuild s old user target from are apart turns at executes own cut

pub returns-clause-unmoved : goal.returns-clause-unmoved
returns-clause-unmoved c = unmoved
