use Rattle.std.proofs.Common.{ℕ, ◌∙◌, ◌-◌, ap, sym, arith, length, length-set}
use Rattle.std.specs.Prelude.{is_some}
use Rattle.pool_map.specs.SlotPool.Pool.{PoolContents}
use Rattle.pool_map.specs.declared.KeyedValue.{KeyedValue as Pair}
use Rattle.pool_map.specs.Shown.{shown}
use Rattle.pool_map.specs.Slots.{length-shown_slots}
use Rattle.pool_map.specs.Table.{contents}
use Rattle.share_index.specs.declared.key.Owner.{Owner}
use Rattle.share_index.specs.Order.{owner_cmp}
use Rattle.share_index.specs.Owning.{Owners}
use Rattle.share_index.specs.Shares.{released}
use Rattle.share_index.proofs.Counting.{plain}
use Rattle.share_index.proofs.Owning.{present, uses-read, lacks-read, owned-count, owning-remove, owning-set, remove-is, set-is}
use Rattle.share_index.proofs.Releasing.{last-use, one-of-more, no-use, no-owner}
use Rattle.share_index.proofs.owners.OwnerTable.release.Goals as goal

pub lower-requires : goal.lower-requires
lower-requires c = owned-count c.self.inside.table c.self.inside.counts c.self.inside.accounts c.self.invariant c.args.owner.now c.in-Some.held.now (uses-read c.self.inside.table c.self.inside.counts c.self.inside.accounts c.self.invariant c.args.owner.now c.in-Some.held.now c.in-Some.ensures.value)

pub invariant_of-self : goal.invariant_of-self
invariant_of-self c =
    let drops = c.remove_at.ensures.slots c.args.owner.now c.in-Some.ensures.slot in
    owning-remove c.self.inside.table c.self.inside.counts c.self.inside.accounts c.self.invariant c.remove_at.new.self c.lower.new.self c.args.owner.now c.in-Some.held.now drops.limits drops.length_kept (c.remove_at.ensures.removed c.args.owner.now c.in-Some.ensures.slot) (uses-read c.self.inside.table c.self.inside.counts c.self.inside.accounts c.self.invariant c.args.owner.now c.in-Some.held.now c.in-Some.ensures.value) c.lower.ensures.counts c.lower.ensures.room

pub invariant_of-self-then-uses-gt1 : goal.invariant_of-self-then-uses-gt1
invariant_of-self-then-uses-gt1 c =
    let x = present c.self.inside.table c.self.inside.counts c.self.inside.accounts c.self.invariant c.args.owner.now (ap is_some (uses-read c.self.inside.table c.self.inside.counts c.self.inside.accounts c.self.invariant c.args.owner.now c.in-Some.held.now c.in-Some.ensures.value)) in
    let rewrites = c.set_at.ensures.slots c.args.owner.now c.in-Some.ensures.slot in
    owning-set c.self.inside.table c.self.inside.counts c.self.inside.accounts c.self.invariant c.set_at.new.self c.args.owner.now (c.in-Some.held.now - 1) x.0
    (ap (λ (p : PoolContents (Pair Owner ℕ)). p.limits) rewrites.now_is)
    (ap (λ (p : PoolContents (Pair Owner ℕ)). length p.slots) rewrites.now_is ∙ length-set c.self.inside.table.slots rewrites.slot _)
    (c.set_at.ensures.replaced c.args.owner.now c.in-Some.ensures.slot) x.1 x.2

pub returns-then-uses-eq1-clause-gone : goal.returns-then-uses-eq1-clause-gone
returns-then-uses-eq1-clause-gone c = rw (← c.self.view_is) (last-use (shown plain (contents owner_cmp c.self.inside.table)) c.args.owner.now c.in-Some.held.now (uses-read c.self.inside.table c.self.inside.counts c.self.inside.accounts c.self.invariant c.args.owner.now c.in-Some.held.now c.in-Some.ensures.value) c.if-uses-eq1.true).0

pub returns-then-uses-eq1-clause-owners : goal.returns-then-uses-eq1-clause-owners
returns-then-uses-eq1-clause-owners c =
    remove-is c.self.inside.table c.self.inside.counts c.self.inside.accounts c.self.invariant c.remove_at.new.self c.args.owner.now (c.remove_at.ensures.removed c.args.owner.now c.in-Some.ensures.slot)
    ∙ (last-use (shown plain (contents owner_cmp c.self.inside.table)) c.args.owner.now c.in-Some.held.now (uses-read c.self.inside.table c.self.inside.counts c.self.inside.accounts c.self.invariant c.args.owner.now c.in-Some.held.now c.in-Some.ensures.value) c.if-uses-eq1.true).1
    ∙ ap (λ (o : Owners). released o.owners c.args.owner.now) c.self.view_is

pub returns-then-uses-eq1-clause-slots : goal.returns-then-uses-eq1-clause-slots
returns-then-uses-eq1-clause-slots c =
    length-shown_slots (λ (uses : ℕ). uses) c.remove_at.new.self.slots
    ∙ (c.remove_at.ensures.slots c.args.owner.now c.in-Some.ensures.slot).length_kept
    ∙ sym (length-shown_slots (λ (uses : ℕ). uses) c.self.inside.table.slots)
    ∙ ap (λ (o : Owners). length o.slots) c.self.view_is

pub returns-then-uses-gt1-clause-gone : goal.returns-then-uses-gt1-clause-gone
returns-then-uses-gt1-clause-gone c = rw (← c.self.view_is) (one-of-more (shown plain (contents owner_cmp c.self.inside.table)) c.args.owner.now c.in-Some.held.now (uses-read c.self.inside.table c.self.inside.counts c.self.inside.accounts c.self.invariant c.args.owner.now c.in-Some.held.now c.in-Some.ensures.value) c.if-uses-gt1.true).0

pub returns-then-uses-gt1-clause-owners : goal.returns-then-uses-gt1-clause-owners
returns-then-uses-gt1-clause-owners c =
    let x = present c.self.inside.table c.self.inside.counts c.self.inside.accounts c.self.invariant c.args.owner.now (ap is_some (uses-read c.self.inside.table c.self.inside.counts c.self.inside.accounts c.self.invariant c.args.owner.now c.in-Some.held.now c.in-Some.ensures.value)) in
    set-is c.self.inside.table c.self.inside.counts c.self.inside.accounts c.self.invariant c.set_at.new.self c.args.owner.now (c.in-Some.held.now - 1) x.0 x.1 (c.set_at.ensures.replaced c.args.owner.now c.in-Some.ensures.slot)
    ∙ (one-of-more (shown plain (contents owner_cmp c.self.inside.table)) c.args.owner.now c.in-Some.held.now (uses-read c.self.inside.table c.self.inside.counts c.self.inside.accounts c.self.invariant c.args.owner.now c.in-Some.held.now c.in-Some.ensures.value) c.if-uses-gt1.true).1
    ∙ ap (λ (o : Owners). released o.owners c.args.owner.now) c.self.view_is

pub returns-then-uses-gt1-clause-slots : goal.returns-then-uses-gt1-clause-slots
returns-then-uses-gt1-clause-slots c =
    let rewrites = c.set_at.ensures.slots c.args.owner.now c.in-Some.ensures.slot in
    length-shown_slots (λ (uses : ℕ). uses) c.set_at.new.self.slots
    ∙ ap (λ (p : PoolContents (Pair Owner ℕ)). length p.slots) rewrites.now_is ∙ length-set c.self.inside.table.slots rewrites.slot _
    ∙ sym (length-shown_slots (λ (uses : ℕ). uses) c.self.inside.table.slots)
    ∙ ap (λ (o : Owners). length o.slots) c.self.view_is

pub returns-else-uses-gt1-clause-gone : goal.returns-else-uses-gt1-clause-gone
returns-else-uses-gt1-clause-gone c =
    let apart = c.if-uses-eq1.false in
    let few = c.if-uses-gt1.false in
    rw (← c.self.view_is) (no-use (shown plain (contents owner_cmp c.self.inside.table)) c.args.owner.now c.in-Some.held.now (uses-read c.self.inside.table c.self.inside.counts c.self.inside.accounts c.self.invariant c.args.owner.now c.in-Some.held.now c.in-Some.ensures.value) (omega arith)).0

pub returns-else-uses-gt1-clause-owners : goal.returns-else-uses-gt1-clause-owners
returns-else-uses-gt1-clause-owners c =
    let apart = c.if-uses-eq1.false in
    let few = c.if-uses-gt1.false in
    rw (← c.self.view_is) (no-use (shown plain (contents owner_cmp c.self.inside.table)) c.args.owner.now c.in-Some.held.now (uses-read c.self.inside.table c.self.inside.counts c.self.inside.accounts c.self.invariant c.args.owner.now c.in-Some.held.now c.in-Some.ensures.value) (omega arith)).1

pub returns-in-None-clause-gone : goal.returns-in-None-clause-gone
returns-in-None-clause-gone c = rw (← c.self.view_is) (no-owner (shown plain (contents owner_cmp c.self.inside.table)) c.args.owner.now (lacks-read c.self.inside.table c.self.inside.counts c.self.inside.accounts c.self.invariant c.args.owner.now c.in-None.ensures.absent)).0

pub returns-in-None-clause-owners : goal.returns-in-None-clause-owners
returns-in-None-clause-owners c = rw (← c.self.view_is) (no-owner (shown plain (contents owner_cmp c.self.inside.table)) c.args.owner.now (lacks-read c.self.inside.table c.self.inside.counts c.self.inside.accounts c.self.invariant c.args.owner.now c.in-None.ensures.absent)).1
