use Rattle.std.proofs.Common.{◌∙◌, ap, sym}
use Rattle.std.specs.FinMap.{get}
use Rattle.pool_map.specs.Table.{contents}
use Rattle.pool_map.specs.Shown.{get-shown}
use Rattle.share_index.specs.Order.{owner_cmp}
use Rattle.share_index.specs.Owning.{Owners}
use Rattle.share_index.proofs.Counting.{plain}
use Rattle.share_index.proofs.owners.OwnerTable.uses.Goals as goal

pub returns : goal.returns
returns c =
    c.copied.ensures ∙ c.get.ensures.value
    ∙ sym (get-shown plain (contents owner_cmp c.self.inside.table) c.args.owner.now)
    ∙ ap (λ (o : Owners). get o.owners c.args.owner.now) c.self.view_is
