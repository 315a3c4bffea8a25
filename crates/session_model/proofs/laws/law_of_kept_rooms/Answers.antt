use Rattle.session_model.proofs.Roomy.{rooms_kept}
use Rattle.session_model.proofs.laws.law_of_kept_rooms.Goals as goal

pub returns : goal.returns
returns c clouds run cloud list is told may = rooms_kept clouds run cloud list is told may
