use Rattle.std.proofs.Common.{length}
use Rattle.spool_command.proofs.bringing.+bring_noted.Given as goal

abbrev pub decreases-bring_noted : goal.decreases-bring_noted
decreases-bring_noted g l = length l.lines.now
