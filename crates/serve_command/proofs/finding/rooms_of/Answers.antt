use Rattle.std.proofs.Common.{rules, inr, refl}
use Rattle.serve_command.proofs.finding.rooms_of.Goals as goal

pub returns-in-Ok-clause-found : goal.returns-in-Ok-clause-found
returns-in-Ok-clause-found g c = λ told.
    inr (c.in-Ok.found.half, c.in-Ok.found.start, c.in-Ok.ensures.found told, refl)

pub returns-in-Err-Damaged-clause-unreadable : goal.returns-in-Err-Damaged-clause-unreadable
returns-in-Err-Damaged-clause-unreadable g c = λ told. search (rules, c.in-Err-Damaged.ensures.found told)
