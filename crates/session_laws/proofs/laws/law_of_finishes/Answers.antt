use Rattle.session_laws.proofs.Storing.{stores_all}
use Rattle.session_laws.proofs.laws.law_of_finishes.Goals as goal

pub returns : goal.returns
returns c = stores_all
