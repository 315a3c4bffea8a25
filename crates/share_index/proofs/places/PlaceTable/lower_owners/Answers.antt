use Rattle.std.proofs.Common.{List, ℕ, ◌∙◌, ◌-◌, ◌<◌, ap, sym, subst, arith, Option}
use Rattle.std.specs.Prelude.{is_some, IfSome}
use Rattle.pool_map.specs.SlotPool.Pool.{PoolContents}
use Rattle.pool_map.specs.declared.KeyedValue.{KeyedValue as Pair}
use Rattle.pool_map.specs.Shown.{shown}
use Rattle.pool_map.specs.Slots.{rewritten-shown, length-rewritten}
use Rattle.pool_map.specs.Table.{contents}
use Rattle.cd_base.specs.Order.{fp_cmp, fp_exact}
use Rattle.share_index.specs.declared.key.Kept.{Kept}
use Rattle.share_index.specs.Counting.{room_of}
use Rattle.share_index.specs.Placing.{Places, fewer_at, with_fewer_owners}
use Rattle.share_index.proofs.Placing.{kept_of, present, kept-read, lacks-read, set-is, set-sub-fits, set-add-fits, placing-set}
use Rattle.share_index.proofs.places.PlaceTable.lower_owners.Goals as goal

pub overflow_sub-fewer : goal.overflow_sub-fewer
overflow_sub-fewer c =
    let some = subst (λ (o : Option Kept). IfSome o (λ k. 0 < k.owners)) (kept-read c.self.inside.table c.self.inside.ownerless c.self.invariant c.args.fp.now c.in-Some.kept.now c.in-Some.ensures.value) (rw (← c.self.view_is) at c.requires) in
    omega (arith, some)

pub overflow_sub-self : goal.overflow_sub-self
overflow_sub-self c = set-sub-fits c.self.inside.table c.self.inside.ownerless c.self.invariant c.args.fp.now c.set_at-old.result c.unowned.result (kept-read c.self.inside.table c.self.inside.ownerless c.self.invariant c.args.fp.now c.set_at-old.result (sym (c.set_at-old.ensures.value c.args.fp.now c.in-Some.ensures.slot))) c.unowned.ensures

pub overflow_add-self : goal.overflow_add-self
overflow_add-self c =
    let fewer : Kept = record { place = c.in-Some.kept.now.place; owners = c.in-Some.kept.now.owners - 1 } in
    let fits = set-add-fits c.self.inside.table c.self.inside.ownerless c.self.invariant c.args.fp.now c.set_at-old.result fewer c.unowned.result c.unowned-in-Some.result (kept-read c.self.inside.table c.self.inside.ownerless c.self.invariant c.args.fp.now c.set_at-old.result (sym (c.set_at-old.ensures.value c.args.fp.now c.in-Some.ensures.slot))) c.unowned.ensures c.unowned-in-Some.ensures in
    omega arith

pub invariant_of-self : goal.invariant_of-self
invariant_of-self c =
    let fewer : Kept = record { place = c.in-Some.kept.now.place; owners = c.in-Some.kept.now.owners - 1 } in
    let x = present c.self.inside.table c.self.inside.ownerless c.self.invariant c.args.fp.now (ap is_some (kept-read c.self.inside.table c.self.inside.ownerless c.self.invariant c.args.fp.now c.in-Some.kept.now c.in-Some.ensures.value)) in
    placing-set c.self.inside.table c.self.inside.ownerless c.self.invariant c.set_at-old.new.self c.args.fp.now c.set_at-old.result fewer x.0 c.unowned.result c.unowned-in-Some.result
    (ap (λ (p : PoolContents (Pair (List ℕ) Kept)). p.limits) (c.set_at-old.ensures.slots c.args.fp.now c.in-Some.ensures.slot).now_is)
    (c.set_at-old.ensures.replaced c.args.fp.now c.in-Some.ensures.slot) x.1 (kept-read c.self.inside.table c.self.inside.ownerless c.self.invariant c.args.fp.now c.set_at-old.result (sym (c.set_at-old.ensures.value c.args.fp.now c.in-Some.ensures.slot))) c.unowned.ensures c.unowned-in-Some.ensures

pub returns-in-Some-clause-placed : goal.returns-in-Some-clause-placed
returns-in-Some-clause-placed c = rw (← c.self.view_is) (sym (ap is_some (kept-read c.self.inside.table c.self.inside.ownerless c.self.invariant c.args.fp.now c.in-Some.kept.now c.in-Some.ensures.value)))

pub returns-in-Some-clause-kept : goal.returns-in-Some-clause-kept
returns-in-Some-clause-kept c =
    let fewer : Kept = record { place = c.in-Some.kept.now.place; owners = c.in-Some.kept.now.owners - 1 } in
    let x = present c.self.inside.table c.self.inside.ownerless c.self.invariant c.args.fp.now (ap is_some (kept-read c.self.inside.table c.self.inside.ownerless c.self.invariant c.args.fp.now c.in-Some.kept.now c.in-Some.ensures.value)) in
    set-is c.self.inside.table c.self.inside.ownerless c.self.invariant c.set_at-old.new.self c.args.fp.now fewer x.0 x.1 (c.set_at-old.ensures.replaced c.args.fp.now c.in-Some.ensures.slot)
    ∙ sym (ap (fewer_at (shown kept_of (contents fp_cmp c.self.inside.table)) c.args.fp.now) (kept-read c.self.inside.table c.self.inside.ownerless c.self.invariant c.args.fp.now c.in-Some.kept.now c.in-Some.ensures.value))
    ∙ ap (λ (p : Places). with_fewer_owners p.kept c.args.fp.now) c.self.view_is

pub returns-in-Some-clause-slots : goal.returns-in-Some-clause-slots
returns-in-Some-clause-slots c =
    let fewer : Kept = record { place = c.in-Some.kept.now.place; owners = c.in-Some.kept.now.owners - 1 } in
    rw (← c.self.view_is) (length-rewritten _ _ c.args.fp.now fewer (rewritten-shown (λ (k : Kept). k) fp_exact c.self.inside.table c.set_at-old.new.self c.args.fp.now fewer (c.set_at-old.ensures.slots c.args.fp.now c.in-Some.ensures.slot)))

pub returns-in-None-clause-placed : goal.returns-in-None-clause-placed
returns-in-None-clause-placed c = rw (← c.self.view_is) (sym (ap is_some (lacks-read c.self.inside.table c.self.inside.ownerless c.self.invariant c.args.fp.now c.in-None.ensures.absent)))

pub returns-in-None-clause-kept : goal.returns-in-None-clause-kept
returns-in-None-clause-kept c = rw (← c.self.view_is) (sym (ap (fewer_at (shown kept_of (contents fp_cmp c.self.inside.table)) c.args.fp.now) (lacks-read c.self.inside.table c.self.inside.ownerless c.self.invariant c.args.fp.now c.in-None.ensures.absent)))

pub returns-in-Some-clause-room : goal.returns-in-Some-clause-room
returns-in-Some-clause-room c =
    ap (λ (p : PoolContents (Pair (List ℕ) Kept)). room_of p.limits) (c.set_at-old.ensures.slots c.args.fp.now c.in-Some.ensures.slot).now_is
    ∙ ap (λ (p : Places). p.room) c.self.view_is
