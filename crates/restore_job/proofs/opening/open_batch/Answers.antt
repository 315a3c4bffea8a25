use Rattle.std.proofs.Common.{◌≡◌, ◌+◌, ◌-◌, ◌<◌, ◌≤◌, ℕ, List, [], Ok, Err, Result, subst, sym, ap, arith, ◌∙◌}
use Rattle.user_dedup.specs.CdBase.shape.Shape.{Shape}
use Rattle.user_dedup.specs.Recipe.items.Item.{Item}
use Rattle.restore_job.specs.Restored.{Unrestored, Given, of_secret, secret_opened, secrets_opened}
use Rattle.restore_job.specs.Steps.{OpensSecretsTo}
use Rattle.restore_job.specs.Brought.{Extends, HasShares}
use Rattle.restore_job.proofs.Bringing.{extends_none, extends_more, opened_here}
use Rattle.restore_job.proofs.Taking.{opening_none, opening_is, opening_more, opening_stops, opening_all, secrets_next, secrets_done, secret_is, grows_on, grows_none}
use Rattle.restore_job.specs.Exchanges.{OpenedTo, NoneOpened, OneOpened}
use Rattle.restore_job.proofs.Speaking.{opens_here}
use Rattle.restore_job.proofs.opening.open_batch.Goals as goal

from_none : (shape : Shape) (firsts : List Item) (all : List Given) (place n : ℕ) → secrets_opened shape firsts all place n ≡ secrets_opened shape firsts all (place + 0) (n - 0)
from_none shape firsts all place n =
    let a : place ≡ place + 0 = omega arith in
    let b : n ≡ n - 0 = omega arith in
    λ i. secrets_opened shape firsts all (a i) (b i)

pub loop-j-init : goal.loop-j-init
loop-j-init c = record {
  opening = λ all points rooms.
      let due = secrets_opened c.args.shape c.args.firsts.now all c.args.place c.args.count in
      opening_is due due _ c.args.out.now c.args.out.now (from_none c.args.shape c.args.firsts.now all c.args.place c.args.count) (opening_none due c.args.out.now);
  grows = grows_none c.args.out.now;
  within = omega arith;
  opened_to = NoneOpened c.args.out.now;
  extends = λ recipes has. extends_none c.args.shape c.args.points.now c.args.firsts.now recipes c.args.place (c.args.place + 0) c.args.out.now (omega arith);
}

pub loop-j-preserved : goal.loop-j-preserved
loop-j-preserved c = record {
  opening = λ all points rooms.
      let due = secrets_opened c.args.shape c.args.firsts.now all c.args.place c.args.count in
      let secret = secret_is c.args.shape c.args.firsts.now all c.args.points.now c.get.result.now (c.args.place + c.loop-j.j) points (c.get.ensures ∙ rooms c.loop-j.j c.loop-j-test.true) in
      opening_more due (of_secret (c.args.place + c.loop-j.j) (secret_opened c.args.shape c.args.firsts.now all (c.args.place + c.loop-j.j))) _ c.args.out.now c.loop-j.out c.open_secret.new.out
      (opening_is due _ _ c.args.out.now c.loop-j.out (secrets_next c.args.shape c.args.firsts.now all c.args.place c.args.count c.loop-j.j c.loop-j-test.true) (c.loop-j.invariant.opening all points rooms))
      (let opens = c.in-Ok.ensures.opens in (opens.0, opens.1, ap (of_secret (c.args.place + c.loop-j.j)) (sym secret) ∙ opens.2));
  grows = grows_on c.args.out.now c.loop-j.out c.open_secret.new.out c.loop-j.invariant.grows c.in-Ok.ensures.grows;
  within = (let lt : c.loop-j.j < c.args.count = c.loop-j-test.true in omega arith);
  opened_to = OneOpened c.loop-j.j c.args.out.now c.loop-j.out c.open_secret.new.out c.loop-j.invariant.opened_to (opens_here c.args.shape c.args.points.now c.args.firsts.now c.args.rooms.now c.args.place c.loop-j.j c.get.result.now (Ok tt) c.loop-j.out c.open_secret.new.out c.get.ensures c.in-Ok.ensures.opens);
  extends = λ recipes has.
      let i = c.args.place + c.loop-j.j in
      let opens = c.in-Ok.ensures.opens in
      let room = subst (HasShares recipes i []) (sym c.get.ensures) (has c.loop-j.j c.loop-j-test.true) in
      extends_more c.args.shape c.args.points.now c.args.firsts.now recipes c.args.place i (c.args.place + (c.loop-j.j + 1)) c.args.out.now c.loop-j.out c.open_secret.new.out opens.0 (omega arith)
      (c.loop-j.invariant.extends recipes has) opens.1
      (opened_here c.args.shape c.args.points.now c.args.firsts.now recipes i c.get.result.now opens.0 c.loop-j.out c.open_secret.new.out room opens.2);
}

pub returns-in-Err-clause-opens : goal.returns-in-Err-clause-opens
returns-in-Err-clause-opens c all points rooms =
    let due = secrets_opened c.args.shape c.args.firsts.now all c.args.place c.args.count in
    let i = c.args.place + c.loop-j.j in
    let secret = secret_is c.args.shape c.args.firsts.now all c.args.points.now c.get.result.now i points (c.get.ensures ∙ rooms c.loop-j.j c.loop-j-test.true) in
    opening_stops due (of_secret i (secret_opened c.args.shape c.args.firsts.now all i)) _ c.in-Err.e c.args.out.now c.loop-j.out c.open_secret.new.out
    (opening_is due _ _ c.args.out.now c.loop-j.out (secrets_next c.args.shape c.args.firsts.now all c.args.place c.args.count c.loop-j.j c.loop-j-test.true) (c.loop-j.invariant.opening all points rooms))
    (subst (λ (r : Result (List ℕ) Unrestored). OpensSecretsTo r (Err c.in-Err.e) c.loop-j.out c.open_secret.new.out) (ap (of_secret i) secret) c.in-Err.ensures.opens)

pub returns-in-Err-clause-grows : goal.returns-in-Err-clause-grows
returns-in-Err-clause-grows c = grows_on c.args.out.now c.loop-j.out c.open_secret.new.out c.loop-j.invariant.grows c.in-Err.ensures.grows

pub returns-clause-opens : goal.returns-clause-opens
returns-clause-opens c all points rooms =
    let due = secrets_opened c.args.shape c.args.firsts.now all c.args.place c.args.count in
    opening_all due c.args.out.now c.loop-j.out
    (opening_is due _ (Ok []) c.args.out.now c.loop-j.out (secrets_done c.args.shape c.args.firsts.now all c.args.place c.args.count c.loop-j.j c.loop-j-test.false) (c.loop-j.invariant.opening all points rooms))

pub returns-clause-brought : goal.returns-clause-brought
returns-clause-brought c recipes has =
    let within : c.loop-j.j ≤ c.args.count = c.loop-j.invariant.within in
    let past : c.args.count ≤ c.loop-j.j = c.loop-j-test.false in
    let all : c.loop-j.j ≡ c.args.count = omega arith in
    subst (λ (n : ℕ). Extends c.args.shape c.args.points.now c.args.firsts.now recipes c.args.place (c.args.place + n) c.args.out.now c.loop-j.out) all (c.loop-j.invariant.extends recipes has)

pub returns-in-Err-clause-opened : goal.returns-in-Err-clause-opened
returns-in-Err-clause-opened c = record {
  j = c.loop-j.j;
  within = c.loop-j-test.true;
  mid = c.loop-j.out;
  front = c.loop-j.invariant.opened_to;
  stops = opens_here c.args.shape c.args.points.now c.args.firsts.now c.args.rooms.now c.args.place c.loop-j.j c.get.result.now (Err c.in-Err.e) c.loop-j.out c.open_secret.new.out c.get.ensures c.in-Err.ensures.opens;
}

pub returns-clause-opened : goal.returns-clause-opened
returns-clause-opened c =
    let all : c.loop-j.j ≡ c.args.count = (let within : c.loop-j.j ≤ c.args.count = c.loop-j.invariant.within in let past : c.args.count ≤ c.loop-j.j = c.loop-j-test.false in omega arith) in
    subst (λ (n : ℕ). OpenedTo c.args.shape c.args.points.now c.args.firsts.now c.args.rooms.now c.args.place n c.args.out.now c.loop-j.out) all c.loop-j.invariant.opened_to
