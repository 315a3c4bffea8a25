use Rattle.std.proofs.Common.{◌∙◌, ap, sym}
use Rattle.std.specs.FinMap.{len}
use Rattle.pool_map.specs.Table.{contents}
use Rattle.pool_map.specs.Shown.{len-shown}
use Rattle.share_index.specs.Order.{owner_cmp}
use Rattle.share_index.specs.Owning.{Owners}
use Rattle.share_index.proofs.Counting.{plain}
use Rattle.share_index.proofs.owners.OwnerTable.len.Goals as goal

pub returns : goal.returns
returns c =
    c.len.ensures.keys
    ∙ sym (len-shown plain (contents owner_cmp c.self.inside.table))
    ∙ ap (λ (o : Owners). len o.owners) c.self.view_is
