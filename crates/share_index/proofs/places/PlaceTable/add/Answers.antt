use Rattle.std.proofs.Common.{◌∙◌, ap, arith, refl}
use Rattle.std.specs.FinMap.{get, insert}
use Rattle.pool_map.specs.SlotPool.Pool.{PoolContents}
use Rattle.pool_map.specs.declared.KeyedValue.{KeyedValue as Pair}
use Rattle.share_index.specs.declared.key.Kept.{Kept}
use Rattle.share_index.specs.Placing.{Places}
use Rattle.std.proofs.Common.{List, ℕ}
use Rattle.share_index.proofs.Placing.{absent, add-is, add-fits, placing-add, charge-is}
use Rattle.share_index.proofs.places.PlaceTable.add.Goals as goal

pub insert-requires-clause-absent : goal.insert-requires-clause-absent
insert-requires-clause-absent c = absent c.self.inside.table c.self.inside.ownerless c.self.invariant c.args.fp (ap (λ (p : Places). get p.kept c.args.fp) c.self.view_is ∙ c.requires.absent)

pub overflow_add-self : goal.overflow_add-self
overflow_add-self c = let fits = add-fits c.self.inside.table c.self.inside.ownerless c.self.invariant c.args.kept c.unowned.result (rw (← c.self.view_is) at c.requires.room) c.unowned.ensures in omega arith

pub invariant_of-self : goal.invariant_of-self
invariant_of-self c =
    placing-add c.self.inside.table c.self.inside.ownerless c.self.invariant c.insert.new.self c.args.fp c.args.kept c.unowned.result
    (ap (λ (p : PoolContents (Pair (List ℕ) Kept)). p.limits) c.in-Ok.ensures.placed.now_is)
    c.in-Ok.ensures.ok (ap (λ (p : Places). get p.kept c.args.fp) c.self.view_is ∙ c.requires.absent) (rw (← c.self.view_is) at c.requires.room) c.unowned.ensures

pub unreachable-requires : goal.unreachable-requires
unreachable-requires c =
    let full = c.in-Err.ensures.refuses.0 refl in
    let charge = charge-is c.self.inside.table c.self.inside.ownerless c.self.invariant in
    let room = (rw (← c.self.view_is) at c.requires.room) in
    omega arith

pub returns-clause-kept : goal.returns-clause-kept
returns-clause-kept c =
    add-is c.self.inside.table c.self.inside.ownerless c.self.invariant c.insert.new.self c.args.fp c.args.kept c.in-Ok.ensures.ok
    ∙ ap (λ (p : Places). insert p.kept c.args.fp c.args.kept) c.self.view_is
