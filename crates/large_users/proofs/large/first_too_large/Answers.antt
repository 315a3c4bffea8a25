use Rattle.std.proofs.Common.{◌≡◌, Option, Some, None, refl}
use Rattle.large_users.specs.declared.large.TooLarge.{TooLarge}
use Rattle.large_users.proofs.Passed.{first_of_all, first_by}
use Rattle.large_users.proofs.large.first_too_large.Goals as goal

pub returns-in-Some-clause-first : goal.returns-in-Some-clause-first
returns-in-Some-clause-first c m users is le = c.in-Some.ensures.first m users is le

pub returns-in-None-clause-first : goal.returns-in-None-clause-first
returns-in-None-clause-first c m users is le =
    first_of_all c.args.rooms.now m c.first_other.result (c.in-None.ensures.none m users is le refl) (c.first_other.ensures.first m users is le)

pub returns-in-Some-clause-sized : goal.returns-in-Some-clause-sized
returns-in-Some-clause-sized c none = absurd (let no : ◌≡◌ {A = Option TooLarge} (Some c.in-Some.large) None = none in cc)

pub returns-in-Some-clause-by_list : goal.returns-in-Some-clause-by_list
returns-in-Some-clause-by_list c m users shape cloud list table is le sound r =
    first_by shape cloud c.args.rooms.now list table m (Some c.in-Some.large) sound r (c.in-Some.ensures.first m users is le)

pub returns-in-None-clause-by_list : goal.returns-in-None-clause-by_list
returns-in-None-clause-by_list c m users shape cloud list table is le sound r =
    first_by shape cloud c.args.rooms.now list table m c.first_other.result sound r
    (first_of_all c.args.rooms.now m c.first_other.result (c.in-None.ensures.none m users is le refl) (c.first_other.ensures.first m users is le))
