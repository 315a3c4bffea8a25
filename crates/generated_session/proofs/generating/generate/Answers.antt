use Rattle.generated_session.proofs.Ends.{goes_well}
use Rattle.generated_session.proofs.generating.generate.Goals as goal

pub returns-clause-complete : goal.returns-clause-complete
returns-clause-complete g c = goes_well c.make_session.result _ _ c.make_session.ensures
