use Rattle.aes256.proofs.Keys.{table-at}
use Rattle.aes256.proofs.schedule.sub.Goals as goal

pub returns : goal.returns
returns c = table-at c.args.b c.ranges.b
