use Rattle.frames.proofs.StreamLaws.{all_shown}
use Rattle.frames.proofs.laws.law_of_runs.Goals as goal

pub returns : goal.returns
returns c = all_shown
