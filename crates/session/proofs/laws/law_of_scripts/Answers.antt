use Rattle.session.proofs.OneScript.{one_script}
use Rattle.session.proofs.laws.law_of_scripts.Goals as goal

pub returns : goal.returns
returns c = record { one = one_script }
