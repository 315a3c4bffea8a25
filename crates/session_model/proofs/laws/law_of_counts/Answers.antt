use Rattle.std.proofs.Common.{refl}
use Rattle.session_model.proofs.Counts.{keeps_step, counts_last}
use Rattle.session_model.proofs.laws.law_of_counts.Goals as goal

pub returns-clause-step : goal.returns-clause-step
returns-clause-step c least small s cloud old event answers moments new step le = keeps_step least small s cloud old event answers moments new step le

pub returns-clause-session : goal.returns-clause-session
returns-clause-session c least small clouds run cloud is le = counts_last least small run.setting cloud clouds run is refl le
