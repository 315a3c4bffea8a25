use Rattle.script_lines.proofs.Others.{damaged_line}
use Rattle.script_lines.proofs.one.error_line.Goals as goal

pub returns-in_default : goal.returns-in_default
returns-in_default c = damaged_line c.args.cloud.0 c.args.error c.damage_of-at.result.0 c.damage_of-at.result.1 c.in_default.not-Fault c.damage_of-at.ensures
