use Rattle.std.proofs.Common.{ℕ, ◌∙◌, ap, length, length-set}
use Rattle.std.specs.Prelude.{is_some}
use Rattle.std.specs.FinMap.{get, insert}
use Rattle.pool_map.specs.SlotPool.Pool.{PoolContents}
use Rattle.pool_map.specs.declared.KeyedValue.{KeyedValue as Pair}
use Rattle.share_index.specs.declared.key.Owner.{Owner}
use Rattle.share_index.specs.Owning.{Owners}
use Rattle.share_index.proofs.Owning.{present, owning-set, set-is}
use Rattle.share_index.proofs.owners.OwnerTable.set_uses.Goals as goal

pub replace-requires : goal.replace-requires
replace-requires c =
    let x = present c.self.inside.table c.self.inside.counts c.self.inside.accounts c.self.invariant c.args.owner.now (ap (λ (o : Owners). is_some (get o.owners c.args.owner.now)) c.self.view_is ∙ c.requires) in
    ap is_some x.1

pub invariant_of-self : goal.invariant_of-self
invariant_of-self c =
    let x = present c.self.inside.table c.self.inside.counts c.self.inside.accounts c.self.invariant c.args.owner.now (ap (λ (o : Owners). is_some (get o.owners c.args.owner.now)) c.self.view_is ∙ c.requires) in
    owning-set c.self.inside.table c.self.inside.counts c.self.inside.accounts c.self.invariant c.replace.new.self c.args.owner.now c.args.uses x.0
    (ap (λ (p : PoolContents (Pair Owner ℕ)). p.limits) c.replace.ensures.slots.now_is)
    (ap (λ (p : PoolContents (Pair Owner ℕ)). length p.slots) c.replace.ensures.slots.now_is ∙ length-set c.self.inside.table.slots c.replace.ensures.slots.slot _)
    c.replace.ensures.replaced x.1 x.2

pub returns-clause-owners : goal.returns-clause-owners
returns-clause-owners c =
    let x = present c.self.inside.table c.self.inside.counts c.self.inside.accounts c.self.invariant c.args.owner.now (ap (λ (o : Owners). is_some (get o.owners c.args.owner.now)) c.self.view_is ∙ c.requires) in
    set-is c.self.inside.table c.self.inside.counts c.self.inside.accounts c.self.invariant c.replace.new.self c.args.owner.now c.args.uses x.0 x.1 c.replace.ensures.replaced
    ∙ ap (λ (o : Owners). insert o.owners c.args.owner.now c.args.uses) c.self.view_is
