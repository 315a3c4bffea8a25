use Rattle.std.proofs.Common.{◌≡◌, ◌+◌, ◌-◌, ℕ, List, set, sym, ap, ◌∙◌, subst, arith, length, length-set}
use Rattle.std.specs.Prelude.{slice_index_or}
use Rattle.checkpoints.specs.Chained.{AreChained}
use Rattle.checkpoints.proofs.Chaining.{chained_none, chained_one}
use Rattle.checkpoints.proofs.chains.chain_slot.Goals as goal

pub returns-in-Some-clause-chained : goal.returns-in-Some-clause-chained
returns-in-Some-clause-chained c count few chained =
    let slots = c.args.shares.now.owner_slots in let firsts = c.args.firsts.now in let nexts = c.args.nexts.now in
    let slot = c.args.behind - 1 in let some = c.requires.some in let within = c.requires.inside in
    let same : c.args.behind ≡ slot + 1 = omega (arith, some) in
    subst (λ (xs : List ℕ). AreChained slots xs c.link.new.nexts count slot) (sym c.link.ensures.firsts)
    (subst (λ (xs : List ℕ). AreChained slots (set firsts c.in-Some.user slot) xs count slot) (sym c.link.ensures.nexts)
    (chained_one slots firsts nexts count slot (omega (arith, same, few)) (subst (AreChained slots firsts nexts count) same chained)
    c.in-Some.user (sym c.in-Some.ensures) (omega (arith, some, within))))

pub returns-in-None-clause-chained : goal.returns-in-None-clause-chained
returns-in-None-clause-chained c count few chained =
    let slots = c.args.shares.now.owner_slots in let firsts = c.args.firsts.now in let nexts = c.args.nexts.now in
    let slot = c.args.behind - 1 in let some = c.requires.some in
    let same : c.args.behind ≡ slot + 1 = omega (arith, some) in
    chained_none slots firsts nexts count slot (omega (arith, same, few)) (subst (AreChained slots firsts nexts count) same chained) (sym c.in-None.ensures)

pub returns-in-Some-clause-users : goal.returns-in-Some-clause-users
returns-in-Some-clause-users c = ap (λ (xs : List ℕ). length xs) c.link.ensures.firsts ∙ length-set c.args.firsts.now c.in-Some.user (c.args.behind - 1)

pub returns-in-Some-clause-slots : goal.returns-in-Some-clause-slots
returns-in-Some-clause-slots c =
    ap (λ (xs : List ℕ). length xs) c.link.ensures.nexts
    ∙ length-set c.args.nexts.now (c.args.behind - 1) (slice_index_or c.args.firsts.now c.in-Some.user 0)
