use Rattle.std.proofs.Common.{length}
use Rattle.checkpoints.proofs.Unmarked.{unmarked}
use Rattle.checkpoints.proofs.marks.Marks.clear.Goals as goal

pub returns : goal.returns
returns c = unmarked c.wipe_all.new.self (length c.args.self.now) c.wipe_all.ensures.wiped c.wipe_all.ensures.long
