use Rattle.std.proofs.Common.{◌∙◌, ap, sym}
use Rattle.std.specs.FinMap.{len}
use Rattle.pool_map.specs.Table.{contents}
use Rattle.pool_map.specs.Shown.{len-shown}
use Rattle.file_index.specs.Order.{key_cmp}
use Rattle.file_index.specs.Files.{Files}
use Rattle.file_index.proofs.Keeping.{value}
use Rattle.file_index.proofs.FileIndex.len.Goals as goal

pub returns : goal.returns
returns c =
    c.len.ensures.keys
    ∙ sym (len-shown value (contents key_cmp c.self.inside.table))
    ∙ ap (λ (f : Files). len f.files) c.self.view_is
