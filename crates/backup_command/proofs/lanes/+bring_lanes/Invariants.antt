use Rattle.std.proofs.Common.{length}
use Rattle.backup_command.proofs.lanes.+bring_lanes.Given as goal

abbrev pub decreases-bring_lanes : goal.decreases-bring_lanes
decreases-bring_lanes g l = length l.lines.now
