use Rattle.record_checks.specs.Checks.{ByCommit}
use Rattle.record_checks.proofs.record.commit_place.Goals as goal

pub returns-in-None : goal.returns-in-None
returns-in-None c = (ByCommit c.args.commit.now c.in-None.ensures.fault.lies c.in-None.ensures.fault.new, c.in-None.ensures.fault.lies.0)
