use Rattle.std.proofs.Common.{take, drop, take-append-drop}
use Rattle.transcript.proofs.gathering.put.Goals as goal

pub returns-in-Err : goal.returns-in-Err
returns-in-Err g c = record {
  all = tt;
  front = (take c.in-Err.field-0.sent c.args.bytes.now, drop c.in-Err.field-0.sent c.args.bytes.now, take-append-drop c.in-Err.field-0.sent c.args.bytes.now, c.in-Err.ensures.prefix.1);
  cause = record { later = c.in-Err.ensures.cause.later; failed = c.in-Err.ensures.cause.failed; still = tt };
}
