use Rattle.command_cloud.proofs.Written.{written_as}
use Rattle.command_cloud.proofs.lines.write_shut.Goals as goal

pub returns : goal.returns
returns g c = written_as _ _ _ _ _ _ c.ending_of-due.ensures.line c.ending_of-due.ensures.status c.write_last.ensures
