use Rattle.std.proofs.Common.{◌∙◌, ap, sym}
use Rattle.std.specs.FinMap.{get, remove}
use Rattle.pool_map.specs.Table.{contents, value_at}
use Rattle.pool_map.specs.Shown.{shown, get-shown, shown-remove}
use Rattle.file_index.specs.Order.{key_cmp, key_exact}
use Rattle.file_index.specs.Files.{Files, key_of}
use Rattle.file_index.proofs.Order.{key_total}
use Rattle.file_index.proofs.Keeping.{value, kept-remove}
use Rattle.file_index.proofs.FileIndex.remove.Goals as goal

pub invariant_of-self : goal.invariant_of-self
invariant_of-self c = kept-remove c.self.inside.table c.remove.new.self c.self.inside.accounts c.of.result c.self.invariant c.remove.ensures.slots.limits c.remove.ensures.removed

pub returns-clause-entry : goal.returns-clause-entry
returns-clause-entry c =
    let key = key_of c.args.user.0 c.args.tag.now.0 c.args.version.0 in
    c.remove.ensures.value ∙ ap (value_at key_cmp c.self.inside.table) c.of.ensures.key
    ∙ sym (get-shown value (contents key_cmp c.self.inside.table) key)
    ∙ ap (λ (f : Files). get f.files key) c.self.view_is

pub returns-clause-removed : goal.returns-clause-removed
returns-clause-removed c =
    let key = key_of c.args.user.0 c.args.tag.now.0 c.args.version.0 in
    ap (shown value) (c.remove.ensures.removed ∙ ap (remove (contents key_cmp c.self.inside.table)) c.of.ensures.key)
    ∙ shown-remove value key_total key_exact (contents key_cmp c.self.inside.table) key
    ∙ ap (λ (f : Files). remove f.files key) c.self.view_is
