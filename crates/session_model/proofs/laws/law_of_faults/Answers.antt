use Rattle.session_model.proofs.Faults.{says_rose, faults_rose}
use Rattle.session_model.proofs.laws.law_of_faults.Goals as goal

pub returns-clause-step : goal.returns-clause-step
returns-clause-step c s cloud old event answers moments new step line has says = says_rose s cloud old event answers moments new step line has says

pub returns-clause-session : goal.returns-clause-session
returns-clause-session c clouds run is = faults_rose clouds run is
