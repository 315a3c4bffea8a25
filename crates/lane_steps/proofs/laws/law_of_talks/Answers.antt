use Rattle.lane_steps.proofs.Runs.{talks_run, talks_along}
use Rattle.lane_steps.proofs.laws.law_of_talks.Goals as goal

pub returns-clause-run : goal.returns-clause-run
returns-clause-run g c = talks_run g.L.Link.tells g.L.Link.talk

pub returns-clause-along : goal.returns-clause-along
returns-clause-along g c = talks_along g.L.Link.tells g.L.Link.talk
