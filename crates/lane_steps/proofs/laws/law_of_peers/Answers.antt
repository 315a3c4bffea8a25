use Rattle.lane_steps.proofs.Runs.{peers_run, peers_along}
use Rattle.lane_steps.proofs.laws.law_of_peers.Goals as goal

pub returns-clause-run : goal.returns-clause-run
returns-clause-run g c = peers_run g.L.Link.tells g.L.Link.talk

pub returns-clause-along : goal.returns-clause-along
returns-clause-along g c = peers_along g.L.Link.tells g.L.Link.talk
