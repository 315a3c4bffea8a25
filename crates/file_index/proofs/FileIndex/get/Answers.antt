use Rattle.std.proofs.Common.{◌∙◌, ap, sym}
use Rattle.std.specs.FinMap.{get}
use Rattle.pool_map.specs.Table.{contents, value_at}
use Rattle.pool_map.specs.Shown.{get-shown}
use Rattle.file_index.specs.Order.{key_cmp}
use Rattle.file_index.specs.Files.{Files, key_of}
use Rattle.file_index.proofs.Keeping.{value}
use Rattle.file_index.proofs.FileIndex.get.Goals as goal

pub returns : goal.returns
returns c =
    let key = key_of c.args.user.0 c.args.tag.now.0 c.args.version.0 in
    c.copied.ensures ∙ c.get.ensures.value ∙ ap (value_at key_cmp c.self.inside.table) c.of.ensures.key
    ∙ sym (get-shown value (contents key_cmp c.self.inside.table) key)
    ∙ ap (λ (f : Files). get f.files key) c.self.view_is
