use Rattle.std.proofs.Common.{◌<◌, ◌≡◌, Option, None, Some, sym, subst, arith}
use Rattle.record_body.specs.CdBase.ids.UserId.{UserId}
use Rattle.large_users.specs.declared.large.TooLarge.{TooLarge}
use Rattle.large_users.proofs.Passed.{first_here, below_more}
use Rattle.large_users.proofs.large.first_user.Goals as goal

pub loop-user-init : goal.loop-user-init
loop-user-init c = record { none = λ m users is le user lt. absurd (omega (arith, lt)) }

pub loop-user-preserved : goal.loop-user-preserved
loop-user-preserved c = record {
  none = λ m users is le.
      below_more c.args.rooms.now m c.loop-user.user (c.loop-user.invariant.none m users is le) (sym (c.in-None.ensures.full m users is le));
}

pub returns-clause-none : goal.returns-clause-none
returns-clause-none c m users is le none user lt =
    c.loop-user.invariant.none m users is le user (let past = c.loop-user-test.false in omega (arith, past, lt))

pub returns-in-Some-clause-none : goal.returns-in-Some-clause-none
returns-in-Some-clause-none c m users is le none = absurd (let no : ◌≡◌ {A = Option TooLarge} (Some c.in-Some.large) None = none in cc)

pub returns-in-Some-clause-first : goal.returns-in-Some-clause-first
returns-in-Some-clause-first c m users is le =
    let user : UserId = record { 0 = c.loop-user.user } in
    record {
      here = first_here c.args.rooms.now m c.in-Some.large user (c.in-Some.ensures.full m users is le) c.in-Some.ensures.user;
      before = λ other lt. c.loop-user.invariant.none m users is le other (subst (λ (u : UserId). other.0 < u.0) c.in-Some.ensures.user lt);
    }
