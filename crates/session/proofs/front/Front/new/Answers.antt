use Rattle.session.proofs.Fronts.{nothing}
use Rattle.session.proofs.front.Front.new.Goals as goal

pub returns : goal.returns
returns c = nothing c.new.result c.new-2.result c.new.ensures c.new-2.ensures
