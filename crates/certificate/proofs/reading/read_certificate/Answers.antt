use Rattle.std.proofs.Common.{ap}
use Rattle.std.specs.Prelude.{Ok}
use Rattle.certificate.proofs.Turns.{said_by, taken_ok, taken_err}
use Rattle.certificate.proofs.reading.read_certificate.Goals as goal

pub returns-in-Ok-clause-text : goal.returns-in-Ok-clause-text
returns-in-Ok-clause-text c = said_by c.args.bytes.now c.in-Ok.heading c.in-Ok.ensures.reads.0 c.in-Ok.ensures.reads.1

pub returns-in-Ok-clause-taken : goal.returns-in-Ok-clause-taken
returns-in-Ok-clause-taken c certificate fits is = ap Ok (taken_ok c.args.bytes.now c.in-Ok.heading c.in-Ok.ensures.reads.0 c.in-Ok.ensures.reads.1 certificate fits is)

pub returns-in-Err-clause-taken : goal.returns-in-Err-clause-taken
returns-in-Err-clause-taken c certificate fits is = absurd (taken_err c.args.bytes.now c.in-Err.wrong c.in-Err.ensures.wrong certificate fits is)
