use Rattle.lane_steps.specs.Runs.{left_of}
use Rattle.lane_steps.proofs.Finishing.{here, Along}
use Rattle.lane_steps.proofs.finish.finish_any.Given as goal

abbrev pub invariant-requests : goal.invariant-requests
invariant-requests g l = Along g.L.Link.tells g.L.Link.talk l.lane.0 l.fn.link l.fn.job l.fn.told.items l.link l.job l.lacked l.told.items

abbrev pub decreases-requests : goal.decreases-requests
decreases-requests g l = left_of (here l.job l.lane.0 l.lacked)
