use Rattle.session_model.proofs.Private.{private_run}
use Rattle.session_model.proofs.laws.law_of_own_replies.Goals as goal

pub returns : goal.returns
returns c = private_run
