use Rattle.std.proofs.Common.{refl, sym}
use Rattle.std.specs.Prelude.{take, drop}
use Rattle.std.proofs.lemmas.List.{take-append-drop}
use Rattle.restore_command.specs.Ends.{InPart}
use Rattle.restore_command.proofs.writing.write_text.Goals as goal

pub returns-in-Err : goal.returns-in-Err
returns-in-Err g c =
    let bytes = c.args.bytes.now in
    let sent = c.in-Err.field-0.sent in
    InPart (take sent bytes) (drop sent bytes) refl (sym (take-append-drop sent bytes)) c.in-Err.ensures.prefix.1
    c.in-Err.ensures.cause.failed
