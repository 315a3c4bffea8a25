use Rattle.std.proofs.Common.{◌∙◌, ap}
use Rattle.pool_map.specs.Accounts.{keys_of}
use Rattle.share_index.specs.declared.key.Owner.{Owner}
use Rattle.share_index.specs.Owning.{Owners}
use Rattle.share_index.proofs.owners.OwnerTable.owned_by.Goals as goal

pub returns : goal.returns
returns c = c.count.ensures ∙ c.self.invariant.counted c.args.user ∙ ap (λ (o : Owners). keys_of (λ (k : Owner). k.user) o.owners c.args.user) c.self.view_is
