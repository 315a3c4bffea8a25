use Rattle.session_model.proofs.Private.{own_alone, served_alone}
use Rattle.session_model.proofs.laws.law_of_own_commands.Goals as goal

pub returns : goal.returns
returns c = record { own = own_alone; rooms = served_alone }
