use Rattle.std.proofs.Common.{refl}
use Rattle.spool_command.proofs.going.end_job.Goals as goal

pub returns-in-Ok-clause-ends : goal.returns-in-Ok-clause-ends
returns-in-Ok-clause-ends g c = rw c.if-stored.true (refl, c.in-Ok.ensures.ends)

pub returns-then-stored-clause-ends : goal.returns-then-stored-clause-ends
returns-then-stored-clause-ends g c = rw c.if-stored.true c.in-Err.ensures.ends

pub returns-in-Ok-put_line-clause-ends : goal.returns-in-Ok-put_line-clause-ends
returns-in-Ok-put_line-clause-ends g c = rw c.if-stored.false (refl, c.in-Ok-put_line.ensures, refl)

pub returns-clause-ends : goal.returns-clause-ends
returns-clause-ends g c = rw c.if-stored.false refl
