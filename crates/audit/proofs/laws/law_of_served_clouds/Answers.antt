use Rattle.audit.proofs.Serving.{served, whole}
use Rattle.audit.proofs.laws.law_of_served_clouds.Goals as goal

pub returns : goal.returns
returns c = record { served = served; whole = whole }
