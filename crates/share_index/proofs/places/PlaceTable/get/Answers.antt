use Rattle.std.proofs.Common.{◌∙◌, ap, sym}
use Rattle.std.specs.FinMap.{get}
use Rattle.pool_map.specs.Table.{contents}
use Rattle.pool_map.specs.Shown.{get-shown}
use Rattle.cd_base.specs.Order.{fp_cmp}
use Rattle.share_index.specs.Placing.{Places}
use Rattle.share_index.proofs.Placing.{kept_of}
use Rattle.share_index.proofs.places.PlaceTable.get.Goals as goal

pub returns : goal.returns
returns c =
    c.copied.ensures ∙ c.get.ensures.value
    ∙ sym (get-shown kept_of (contents fp_cmp c.self.inside.table) c.args.fp.now)
    ∙ ap (λ (p : Places). get p.kept c.args.fp.now) c.self.view_is
