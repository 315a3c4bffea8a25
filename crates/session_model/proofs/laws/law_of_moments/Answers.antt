use Rattle.session_model.proofs.Parts.{listed_later, listed_here, listed_part}
use Rattle.session_model.proofs.laws.law_of_moments.Goals as goal

pub returns-clause-later : goal.returns-clause-later
returns-clause-later c = listed_later

pub returns-clause-here : goal.returns-clause-here
returns-clause-here c = listed_here

pub returns-clause-part : goal.returns-clause-part
returns-clause-part c = listed_part
