use Rattle.std.proofs.Common.{ℕ, ◌∙◌, ap, length, length-set, refl}
use Rattle.std.specs.FinMap.{get, insert}
use Rattle.pool_map.specs.SlotPool.Pool.{PoolContents}
use Rattle.pool_map.specs.declared.KeyedValue.{KeyedValue as Pair}
use Rattle.share_index.specs.declared.key.Owner.{Owner}
use Rattle.share_index.specs.Owning.{Owners}
use Rattle.share_index.proofs.Owning.{absent, add-is, owning-add, has-room, refusal, refusal-full, stranger}
use Rattle.share_index.proofs.owners.OwnerTable.add.Goals as goal

pub returns-in-None-clause-refuses : goal.returns-in-None-clause-refuses
returns-in-None-clause-refuses c =
    let s = stranger c.self.inside.table c.self.inside.counts c.self.inside.accounts c.self.invariant c.args.owner.user c.in-None.ensures.apart c.in-None.ensures.unknown in
    rw (← c.self.view_is) ((λ e. s.0), (λ full. refl))

pub returns-in-None-clause-full : goal.returns-in-None-clause-full
returns-in-None-clause-full c =
    let s = stranger c.self.inside.table c.self.inside.counts c.self.inside.accounts c.self.invariant c.args.owner.user c.in-None.ensures.apart c.in-None.ensures.unknown in
    rw (← c.self.view_is) s.1

pub insert-requires-clause-absent : goal.insert-requires-clause-absent
insert-requires-clause-absent c = absent c.self.inside.table c.self.inside.counts c.self.inside.accounts c.self.invariant c.args.owner (ap (λ (o : Owners). get o.owners c.args.owner) c.self.view_is ∙ c.requires)

pub raise-requires : goal.raise-requires
raise-requires c = has-room c.self.inside.table c.self.inside.counts c.self.inside.accounts c.self.invariant c.insert.new.self c.args.owner c.in-Some.account c.len-owned.result c.in-Ok.ensures.ok (ap (λ (p : PoolContents (Pair Owner ℕ)). length p.slots) c.in-Ok.ensures.placed.now_is ∙ length-set c.self.inside.table.slots c.in-Ok.ensures.placed.slot _) (ap (λ (o : Owners). get o.owners c.args.owner) c.self.view_is ∙ c.requires) c.len-owned.ensures.keys c.len-owned.ensures.fits

pub invariant_of-self : goal.invariant_of-self
invariant_of-self c =
    owning-add c.self.inside.table c.self.inside.counts c.self.inside.accounts c.self.invariant c.insert.new.self c.raise.new.self c.args.owner c.in-Some.account
    (ap (λ (p : PoolContents (Pair Owner ℕ)). p.limits) c.in-Ok.ensures.placed.now_is)
    (ap (λ (p : PoolContents (Pair Owner ℕ)). length p.slots) c.in-Ok.ensures.placed.now_is ∙ length-set c.self.inside.table.slots c.in-Ok.ensures.placed.slot _) c.in-Ok.ensures.ok (ap (λ (o : Owners). get o.owners c.args.owner) c.self.view_is ∙ c.requires) c.in-Some.ensures.account c.in-Some.ensures.known c.raise.ensures.counts c.raise.ensures.room

pub returns-in-Ok-clause-ok : goal.returns-in-Ok-clause-ok
returns-in-Ok-clause-ok c =
    add-is c.self.inside.table c.self.inside.counts c.self.inside.accounts c.self.invariant c.insert.new.self c.args.owner c.in-Some.account c.in-Ok.ensures.ok
    ∙ ap (λ (o : Owners). insert o.owners c.args.owner 0) c.self.view_is

pub returns-in-Ok-clause-refuses : goal.returns-in-Ok-clause-refuses
returns-in-Ok-clause-refuses c = rw (← c.self.view_is) (refusal c.self.inside.table c.self.inside.counts c.self.inside.accounts c.self.invariant c.args.owner.user c.in-Some.account _ c.in-Some.ensures.account c.in-Some.ensures.known c.in-Ok.ensures.refuses)

pub returns-in-Err-clause-refuses : goal.returns-in-Err-clause-refuses
returns-in-Err-clause-refuses c = rw (← c.self.view_is) (refusal c.self.inside.table c.self.inside.counts c.self.inside.accounts c.self.invariant c.args.owner.user c.in-Some.account _ c.in-Some.ensures.account c.in-Some.ensures.known c.in-Err.ensures.refuses)

pub returns-in-Err-clause-full : goal.returns-in-Err-clause-full
returns-in-Err-clause-full c = rw (← c.self.view_is) (refusal-full c.self.inside.table c.self.inside.counts c.self.inside.accounts c.self.invariant c.args.owner.user c.in-Some.account _ _ c.in-Some.ensures.account c.in-Some.ensures.known c.in-Err.ensures.used c.in-Err.ensures.limit)
