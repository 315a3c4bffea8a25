use Rattle.std.proofs.Common.{◌∙◌, ap, sym, arith, Some}
use Rattle.std.specs.Prelude.{is_some}
use Rattle.std.specs.FinMap.{get, insert}
use Rattle.pool_map.specs.SlotPool.Pool.{PoolContents}
use Rattle.pool_map.specs.declared.KeyedValue.{KeyedValue as Pair}
use Rattle.share_index.specs.declared.key.Kept.{Kept}
use Rattle.pool_map.specs.Slots.{rewritten-shown}
use Rattle.cd_base.specs.Order.{fp_exact}
use Rattle.share_index.specs.Placing.{Places}
use Rattle.std.proofs.Common.{List, ℕ}
use Rattle.share_index.proofs.Placing.{present, value-is, set-is, set-sub-fits, set-add-fits, placing-set}
use Rattle.share_index.proofs.places.PlaceTable.set.Goals as goal

pub returns-clause-rewritten : goal.returns-clause-rewritten
returns-clause-rewritten c = rw (← c.self.view_is) (rewritten-shown (λ (k : Kept). k) fp_exact c.self.inside.table c.replace-old.new.self c.args.fp.now c.args.kept c.replace-old.ensures.slots)

pub replace-old-requires : goal.replace-old-requires
replace-old-requires c =
    let x = present c.self.inside.table c.self.inside.ownerless c.self.invariant c.args.fp.now (ap (λ (p : Places). is_some (get p.kept c.args.fp.now)) c.self.view_is ∙ c.requires) in
    ap is_some x.1

pub overflow_sub-self : goal.overflow_sub-self
overflow_sub-self c =
    let x = present c.self.inside.table c.self.inside.ownerless c.self.invariant c.args.fp.now (ap (λ (p : Places). is_some (get p.kept c.args.fp.now)) c.self.view_is ∙ c.requires) in
    set-sub-fits c.self.inside.table c.self.inside.ownerless c.self.invariant c.args.fp.now c.replace-old.result c.unowned.result (x.2 ∙ ap Some (sym (value-is c.self.inside.table c.self.inside.ownerless c.self.invariant c.args.fp.now x.0 c.replace-old.result x.1 c.replace-old.ensures.value))) c.unowned.ensures

pub overflow_add-self : goal.overflow_add-self
overflow_add-self c =
    let x = present c.self.inside.table c.self.inside.ownerless c.self.invariant c.args.fp.now (ap (λ (p : Places). is_some (get p.kept c.args.fp.now)) c.self.view_is ∙ c.requires) in
    let fits = set-add-fits c.self.inside.table c.self.inside.ownerless c.self.invariant c.args.fp.now c.replace-old.result c.args.kept c.unowned.result c.unowned-2.result (x.2 ∙ ap Some (sym (value-is c.self.inside.table c.self.inside.ownerless c.self.invariant c.args.fp.now x.0 c.replace-old.result x.1 c.replace-old.ensures.value))) c.unowned.ensures c.unowned-2.ensures in
    omega arith

pub invariant_of-self : goal.invariant_of-self
invariant_of-self c =
    let x = present c.self.inside.table c.self.inside.ownerless c.self.invariant c.args.fp.now (ap (λ (p : Places). is_some (get p.kept c.args.fp.now)) c.self.view_is ∙ c.requires) in
    placing-set c.self.inside.table c.self.inside.ownerless c.self.invariant c.replace-old.new.self c.args.fp.now c.replace-old.result c.args.kept x.0 c.unowned.result c.unowned-2.result
    (ap (λ (p : PoolContents (Pair (List ℕ) Kept)). p.limits) c.replace-old.ensures.slots.now_is)
    c.replace-old.ensures.replaced x.1 (x.2 ∙ ap Some (sym (value-is c.self.inside.table c.self.inside.ownerless c.self.invariant c.args.fp.now x.0 c.replace-old.result x.1 c.replace-old.ensures.value))) c.unowned.ensures c.unowned-2.ensures

pub returns-clause-kept : goal.returns-clause-kept
returns-clause-kept c =
    let x = present c.self.inside.table c.self.inside.ownerless c.self.invariant c.args.fp.now (ap (λ (p : Places). is_some (get p.kept c.args.fp.now)) c.self.view_is ∙ c.requires) in
    set-is c.self.inside.table c.self.inside.ownerless c.self.invariant c.replace-old.new.self c.args.fp.now c.args.kept x.0 x.1 c.replace-old.ensures.replaced
    ∙ ap (λ (p : Places). insert p.kept c.args.fp.now c.args.kept) c.self.view_is
