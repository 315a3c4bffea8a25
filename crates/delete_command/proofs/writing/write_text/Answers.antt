use Rattle.std.proofs.Common.{take, drop, take-append-drop, refl, sym}
use Rattle.delete_command.specs.Writing.{InPart}
use Rattle.delete_command.proofs.writing.write_text.Goals as goal

pub returns-in-Err : goal.returns-in-Err
returns-in-Err g c =
    let sent = c.in-Err.field-0.sent in
    InPart (take sent c.args.text.now) (drop sent c.args.text.now) refl (sym (take-append-drop sent c.args.text.now))
    c.in-Err.ensures.prefix.1 c.in-Err.ensures.cause.failed
