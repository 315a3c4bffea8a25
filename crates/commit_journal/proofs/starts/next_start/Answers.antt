use Rattle.commit_journal.proofs.Steps.{next_is}
use Rattle.commit_journal.proofs.starts.next_start.Goals as goal

pub returns : goal.returns
returns c = next_is c.args.start.now c.args.header.now c.args.commands c.args.records c.args.region c.epoch.result c.epoch.ensures
