use Rattle.std.proofs.Common.{◌≡◌, length, drop, sym, ◌∙◌, arith}
use Rattle.std.proofs.Common.{length-drop, ap, subst}
use Rattle.std.specs.Prelude.{All}
use Rattle.std.proofs.lemmas.List.Elements.{All-nil}
use Rattle.cloud_memory.specs.RecordBody.Spelling.{FitsKept}
use Rattle.checkpoints.specs.Records.{kept_at, kept_from}
use Rattle.checkpoints.proofs.RoomLaw.{picked_few}
use Rattle.checkpoints.proofs.Tallied.{none_ownerless}
use Rattle.checkpoints.proofs.Tallied.{tally_number, tally_fit, tally_full, one_tally}
use Rattle.checkpoints.proofs.tally.count_kept.Goals as goal

pub returns-clause-count : goal.returns-clause-count
returns-clause-count c =
    let all = kept_from c.args.shares.now c.args.from in let rest = kept_from c.args.shares.now c.loop-count.at in let count = c.loop-count.count in
    let ends : count ≡ length c.args.shares.now.place_slots = let no = c.loop-count-test.false in let most = c.loop-count.auto.count-end in omega (arith, no, most, c.place_slots-count-end.ensures) in
    let none = tally_full (FitsKept) all rest count c.loop-count.invariant (omega (arith, ends, picked_few (kept_at c.args.shares.now.owners) (drop c.args.from c.args.shares.now.place_slots), length-drop c.args.from c.args.shares.now.place_slots)) in
    c.place_slots.ensures ∙ sym ends ∙ tally_number (FitsKept) all rest count c.loop-count.invariant none

pub returns-clause-fit : goal.returns-clause-fit
returns-clause-fit c =
    let all = kept_from c.args.shares.now c.args.from in let rest = kept_from c.args.shares.now c.loop-count.at in let count = c.loop-count.count in
    let ends : count ≡ length c.args.shares.now.place_slots = let no = c.loop-count-test.false in let most = c.loop-count.auto.count-end in omega (arith, no, most, c.place_slots-count-end.ensures) in
    let none = tally_full (FitsKept) all rest count c.loop-count.invariant (omega (arith, ends, picked_few (kept_at c.args.shares.now.owners) (drop c.args.from c.args.shares.now.place_slots), length-drop c.args.from c.args.shares.now.place_slots)) in
    tally_fit (FitsKept) all rest count c.loop-count.invariant none

pub loop-count-preserved : goal.loop-count-preserved
loop-count-preserved c =
    let shares = c.args.shares.now in
    one_tally FitsKept (kept_from shares c.args.from) (kept_from shares c.loop-count.at) (kept_from shares c.in-Some.behind) c.loop-count.count c.in-Some._item
    c.loop-count.invariant c.in-Some.ensures.next.rest c.in-Some.ensures.fits

pub returns-then-ownerless-eq0-clause-count : goal.returns-then-ownerless-eq0-clause-count
returns-then-ownerless-eq0-clause-count c =
    ap length (sym (none_ownerless c.args.shares.now c.args.from (sym c.ownerless.ensures ∙ c.if-ownerless-eq0.true) c.place_at.ensures.each))

pub returns-then-ownerless-eq0-clause-fit : goal.returns-then-ownerless-eq0-clause-fit
returns-then-ownerless-eq0-clause-fit c =
    subst (All FitsKept) (sym (none_ownerless c.args.shares.now c.args.from (sym c.ownerless.ensures ∙ c.if-ownerless-eq0.true) c.place_at.ensures.each)) (All-nil FitsKept)
