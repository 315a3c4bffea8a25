use Rattle.std.proofs.Common.{◌≡◌, ◌∙◌, ap, sym, Some, None}
use Rattle.std.specs.Prelude.{is_some, option_map}
use Rattle.std.specs.FinMap.{get, remove}
use Rattle.share_index.specs.Emptied.{emptied-shown}
use Rattle.cd_base.specs.Order.{fp_exact}
use Rattle.share_index.specs.declared.key.Kept.{Kept}
use Rattle.share_index.specs.Placing.{Places}
use Rattle.share_index.proofs.Placing.{fp_total, kept_of, present, value-is, remove-is, set-sub-fits, placing-remove}
use Rattle.share_index.proofs.places.PlaceTable.remove.Goals as goal

pub overflow_sub-self : goal.overflow_sub-self
overflow_sub-self c =
    let x = present c.self.inside.table c.self.inside.ownerless c.self.invariant c.args.fp.now (ap (λ (p : Places). is_some (get p.kept c.args.fp.now)) c.self.view_is ∙ c.requires) in
    set-sub-fits c.self.inside.table c.self.inside.ownerless c.self.invariant c.args.fp.now c.in-Some.old c.unowned.result (x.2 ∙ ap Some (sym (value-is c.self.inside.table c.self.inside.ownerless c.self.invariant c.args.fp.now x.0 c.in-Some.old x.1 (sym c.in-Some.is ∙ c.remove.ensures.value)))) c.unowned.ensures

pub invariant_of-self : goal.invariant_of-self
invariant_of-self c =
    let x = present c.self.inside.table c.self.inside.ownerless c.self.invariant c.args.fp.now (ap (λ (p : Places). is_some (get p.kept c.args.fp.now)) c.self.view_is ∙ c.requires) in
    placing-remove c.self.inside.table c.self.inside.ownerless c.self.invariant c.remove.new.self c.args.fp.now c.in-Some.old c.unowned.result c.remove.ensures.slots.limits c.remove.ensures.removed
    (x.2 ∙ ap Some (sym (value-is c.self.inside.table c.self.inside.ownerless c.self.invariant c.args.fp.now x.0 c.in-Some.old x.1 (sym c.in-Some.is ∙ c.remove.ensures.value)))) c.unowned.ensures

pub unreachable-requires : goal.unreachable-requires
unreachable-requires c =
    let x = present c.self.inside.table c.self.inside.ownerless c.self.invariant c.args.fp.now (ap (λ (p : Places). is_some (get p.kept c.args.fp.now)) c.self.view_is ∙ c.requires) in
    let gone : None ≡ Some x.0.1 = c.in-None.ensures.value ∙ ap (option_map kept_of) x.1 in
    cc

pub returns-clause-kept : goal.returns-clause-kept
returns-clause-kept c =
    remove-is c.self.inside.table c.self.inside.ownerless c.self.invariant c.remove.new.self c.args.fp.now c.remove.ensures.removed
    ∙ ap (λ (p : Places). remove p.kept c.args.fp.now) c.self.view_is

pub returns-clause-emptied : goal.returns-clause-emptied
returns-clause-emptied c = rw (← c.self.view_is) (emptied-shown (λ (k : Kept). k) fp_total fp_exact c.self.inside.table c.remove.new.self c.args.fp.now c.remove.ensures.slots)
