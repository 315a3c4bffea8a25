use Rattle.std.specs.Prelude.{take, drop}
use Rattle.std.proofs.lemmas.List.{take-append-drop}
use Rattle.generated_session.proofs.summary.write_summary.Goals as goal

pub returns-in-Err-clause-end : goal.returns-in-Err-clause-end
returns-in-Err-clause-end g c =
    let sent = c.in-Err.field-0.sent in
    let bytes = c.args.bytes.now in
    ((take sent bytes, drop sent bytes, take-append-drop sent bytes, c.in-Err.ensures.prefix.1), c.in-Err.ensures.cause.failed)
