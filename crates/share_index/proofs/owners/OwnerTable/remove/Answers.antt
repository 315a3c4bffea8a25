use Rattle.std.proofs.Common.{◌∙◌, ap}
use Rattle.std.specs.Prelude.{is_some}
use Rattle.std.specs.FinMap.{get, remove}
use Rattle.share_index.specs.Owning.{Owners}
use Rattle.share_index.proofs.Owning.{present, owned-count, owning-remove, remove-is}
use Rattle.share_index.proofs.owners.OwnerTable.remove.Goals as goal

pub lower-requires : goal.lower-requires
lower-requires c =
    let x = present c.self.inside.table c.self.inside.counts c.self.inside.accounts c.self.invariant c.args.owner.now (ap (λ (o : Owners). is_some (get o.owners c.args.owner.now)) c.self.view_is ∙ c.requires) in
    owned-count c.self.inside.table c.self.inside.counts c.self.inside.accounts c.self.invariant c.args.owner.now x.0.1 x.2

pub invariant_of-self : goal.invariant_of-self
invariant_of-self c =
    let x = present c.self.inside.table c.self.inside.counts c.self.inside.accounts c.self.invariant c.args.owner.now (ap (λ (o : Owners). is_some (get o.owners c.args.owner.now)) c.self.view_is ∙ c.requires) in
    owning-remove c.self.inside.table c.self.inside.counts c.self.inside.accounts c.self.invariant c.remove.new.self c.lower.new.self c.args.owner.now x.0.1 c.remove.ensures.slots.limits c.remove.ensures.slots.length_kept c.remove.ensures.removed x.2 c.lower.ensures.counts c.lower.ensures.room

pub returns-clause-owners : goal.returns-clause-owners
returns-clause-owners c =
    remove-is c.self.inside.table c.self.inside.counts c.self.inside.accounts c.self.invariant c.remove.new.self c.args.owner.now c.remove.ensures.removed
    ∙ ap (λ (o : Owners). remove o.owners c.args.owner.now) c.self.view_is
