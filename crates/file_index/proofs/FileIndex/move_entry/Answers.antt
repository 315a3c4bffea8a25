use Rattle.std.proofs.Common.{◌∙◌, ap}
use Rattle.std.specs.Prelude.{is_some}
use Rattle.std.specs.FinMap.{get, insert}
use Rattle.pool_map.specs.SlotPool.Pool.{PoolContents}
use Rattle.pool_map.specs.declared.KeyedValue.{KeyedValue as Pair}
use Rattle.pool_map.specs.Table.{contents}
use Rattle.pool_map.specs.Shown.{shown}
use Rattle.pool_map.specs.Slots.{rewritten-shown, length-rewritten}
use Rattle.file_index.specs.declared.key.FileKey.{FileKey}
use Rattle.file_index.specs.declared.key.Entry.{Entry}
use Rattle.file_index.specs.Order.{key_cmp, key_exact}
use Rattle.file_index.specs.Files.{Files, key_of}
use Rattle.file_index.proofs.Keeping.{value, entry-of, kept-rewritten, rewritten-files}
use Rattle.file_index.proofs.FileIndex.move_entry.Goals as goal

pub replace-requires : goal.replace-requires
replace-requires c =
    let key = key_of c.args.user.0 c.args.tag.now.0 c.args.version.0 in
    let x = entry-of (contents key_cmp c.self.inside.table) key (ap (λ (f : Files). is_some (get f.files key)) c.self.view_is ∙ c.requires) in
    ap (λ k. is_some (get (contents key_cmp c.self.inside.table) k)) c.of.ensures.key ∙ ap is_some x.1

pub invariant_of-self : goal.invariant_of-self
invariant_of-self c =
    let key = key_of c.args.user.0 c.args.tag.now.0 c.args.version.0 in
    let x = entry-of (contents key_cmp c.self.inside.table) key (ap (λ (f : Files). is_some (get f.files key)) c.self.view_is ∙ c.requires) in
    kept-rewritten c.self.inside.table c.replace.new.self c.self.inside.accounts c.of.result c.args.entry x.0 c.self.invariant
    (ap (λ (p : PoolContents (Pair FileKey Entry)). p.limits) c.replace.ensures.slots.now_is)
    c.replace.ensures.replaced
    (ap (get (contents key_cmp c.self.inside.table)) c.of.ensures.key ∙ x.1)

pub returns-clause-files : goal.returns-clause-files
returns-clause-files c =
    let key = key_of c.args.user.0 c.args.tag.now.0 c.args.version.0 in
    let x = entry-of (contents key_cmp c.self.inside.table) key (ap (λ (f : Files). is_some (get f.files key)) c.self.view_is ∙ c.requires) in
    rewritten-files c.self.inside.table c.replace.new.self c.of.result c.args.entry x.0 (ap (get (contents key_cmp c.self.inside.table)) c.of.ensures.key ∙ x.1) c.replace.ensures.replaced
    ∙ ap (λ k. insert (shown value (contents key_cmp c.self.inside.table)) k c.args.entry) c.of.ensures.key
    ∙ ap (λ (f : Files). insert f.files key c.args.entry) c.self.view_is

pub returns-clause-moved : goal.returns-clause-moved
returns-clause-moved c = rw (← c.self.view_is, ← c.of.ensures.key) (rewritten-shown (λ (e : Entry). e) key_exact c.self.inside.table c.replace.new.self c.of.result c.args.entry c.replace.ensures.slots)

pub returns-clause-slots : goal.returns-clause-slots
returns-clause-slots c = rw (← c.self.view_is) (length-rewritten _ _ _ _ (rewritten-shown (λ (e : Entry). e) key_exact c.self.inside.table c.replace.new.self c.of.result c.args.entry c.replace.ensures.slots))
