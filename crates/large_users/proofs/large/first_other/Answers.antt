use Rattle.large_users.proofs.Passed.{first_from, none_passed}
use Rattle.large_users.proofs.large.first_other.Goals as goal

pub returns-in-Some-clause-first : goal.returns-in-Some-clause-first
returns-in-Some-clause-first c m users is le =
    let found = c.in-Some.ensures.found m users is in
    first_from c.args.rooms.now m c.too_large.result (record { 0 = c.in-Some.user }) (c.too_large.ensures.full m users is le) c.too_large.ensures.user found.0 found.1
    (λ u from below. c.in-Some.ensures.seen m users is u from below)

pub returns-in-None-clause-first : goal.returns-in-None-clause-first
returns-in-None-clause-first c m users is le user from =
    let no = c.in-None.ensures.seen m users is user.0 from tt in
    none_passed m user c.args.rooms.now no.0 no.1
