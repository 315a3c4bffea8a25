use Rattle.serve_command.proofs.Texts.{cut_at}
use Rattle.serve_command.proofs.lines.write_line.Goals as goal

pub returns-in-Err : goal.returns-in-Err
returns-in-Err g c = cut_at _ _ _ _ c.args.line.now c.in-Err.field-0.sent c.in-Err.ensures.prefix.1
    c.in-Err.ensures.cause.failed
