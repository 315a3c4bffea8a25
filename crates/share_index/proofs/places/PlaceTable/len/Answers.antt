use Rattle.std.proofs.Common.{◌∙◌, ap, sym}
use Rattle.std.specs.FinMap.{len}
use Rattle.pool_map.specs.Table.{contents}
use Rattle.pool_map.specs.Shown.{len-shown}
use Rattle.cd_base.specs.Order.{fp_cmp}
use Rattle.share_index.specs.Placing.{Places}
use Rattle.share_index.proofs.Placing.{kept_of}
use Rattle.share_index.proofs.places.PlaceTable.len.Goals as goal

pub returns : goal.returns
returns c =
    c.len.ensures.keys
    ∙ sym (len-shown kept_of (contents fp_cmp c.self.inside.table))
    ∙ ap (λ (p : Places). len p.kept) c.self.view_is
