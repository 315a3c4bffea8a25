use Rattle.user_dedup.proofs.Execs.{keeps_sound}
use Rattle.user_dedup.proofs.laws.law_of_execution.Goals as goal

pub returns : goal.returns
returns c = keeps_sound
