use Rattle.frames.proofs.StreamLaws.{shown_first}
use Rattle.frames.proofs.laws.law_of_streams.Goals as goal

pub returns : goal.returns
returns c = shown_first
