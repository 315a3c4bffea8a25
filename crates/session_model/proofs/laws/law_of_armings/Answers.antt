use Rattle.session_model.proofs.Armings.{only_arms}
use Rattle.session_model.proofs.laws.law_of_armings.Goals as goal

pub returns : goal.returns
returns c clouds run cloud is none = only_arms clouds run cloud is none
