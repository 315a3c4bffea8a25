use Rattle.std.proofs.Common.{rules}
use Rattle.serve_command.specs.Lines.{ready_text}
use Rattle.serve_command.proofs.lines.ready_line.Goals as goal

pub returns : goal.returns
unfolding ready_text
returns c = search rules
