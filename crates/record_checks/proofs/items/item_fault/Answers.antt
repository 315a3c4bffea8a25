use Rattle.std.proofs.Common.{ℕ, ◌∙◌, sym, subst}
use Rattle.std.specs.Prelude.{IfSome}
use Rattle.std.specs.FinMap.{get}
use Rattle.cloud_memory.specs.CloudAreas.Placing.{region_start}
use Rattle.record_checks.specs.Checks.{Lies, ItemFault, Owned, Flag, Misplaced}
use Rattle.record_checks.proofs.Faults.{not_so, flag_wrong, flag_right, same_bool, other_bool}
use Rattle.record_checks.proofs.items.item_fault.Goals as goal

pub returns-then-owned-clause-fault : goal.returns-then-owned-clause-fault
returns-then-owned-clause-fault c = λ m user facts. Owned (facts.own.0 c.if-owned.true)

pub returns-then-is_some-placed-clause-fault : goal.returns-then-is_some-placed-clause-fault
returns-then-is_some-placed-clause-fault c = λ m user facts.
    let g = c.args.ground.now in
    let item = c.args.found.now.item in
    subst (ItemFault g c.args.inside m user item c.args.found.now.fp_at) (sym c.requires.flag)
    (Flag (not_so c.args.owned facts.own c.if-owned.false)
    (flag_wrong item.place (get m.places item.fp.0) c.args.placed (facts.laid c.if-owned.false) (sym c.is_some.ensures ∙ same_bool c.is_some.result c.args.placed c.if-is_some-placed.true)))

pub returns-then-not-is_laid-clause-fault : goal.returns-then-not-is_laid-clause-fault
returns-then-not-is_laid-clause-fault c = λ m user facts.
    let g = c.args.ground.now in
    let item = c.args.found.now.item in
    let misplaced = not_so c.is_laid.result c.is_laid.ensures.lies c.if-not-is_laid.true in
    subst (ItemFault g c.args.inside m user item c.args.found.now.fp_at) (sym c.requires.place)
    (Misplaced (not_so c.args.owned facts.own c.if-owned.false)
    (flag_right item.place (get m.places item.fp.0) c.args.placed (facts.laid c.if-owned.false) (λ e. other_bool c.is_some.result c.args.placed c.if-is_some-placed.false (c.is_some.ensures ∙ e)))
    (subst (λ (end : ℕ). ¬ (IfSome item.place (Lies c.args.inside (region_start g.region) end g.shares_len))) facts.end_is misplaced))
