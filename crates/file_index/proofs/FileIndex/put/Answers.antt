use Rattle.std.proofs.Common.{◌∙◌, ap, sym, subst, refl}
use Rattle.std.specs.FinMap.{get, insert}
use Rattle.pool_map.specs.SlotPool.Pool.{PoolContents}
use Rattle.pool_map.specs.declared.KeyedValue.{KeyedValue as Pair}
use Rattle.pool_map.specs.Table.{contents}
use Rattle.pool_map.specs.Shown.{shown, shown-insert}
use Rattle.pool_map.specs.Accounts.{account_for, IsKnown}
use Rattle.file_index.specs.declared.key.FileKey.{FileKey}
use Rattle.file_index.specs.declared.key.Entry.{Entry}
use Rattle.file_index.specs.Order.{key_cmp, key_exact}
use Rattle.file_index.specs.Files.{Files, key_of}
use Rattle.file_index.specs.Kept.{IsKept}
use Rattle.file_index.proofs.Order.{key_total}
use Rattle.file_index.proofs.Keeping.{value, absent-shown, kept-insert, refusal, refusal-full, stranger}
use Rattle.file_index.proofs.FileIndex.put.Goals as goal
use Rattle.file_index.proofs.FileIndex.put.Goals.{in-Ok, in-Err}

pub insert-requires-clause-absent : goal.insert-requires-clause-absent
insert-requires-clause-absent c =
    absent-shown (contents key_cmp c.self.inside.table) c.of.result
    (ap (get (shown value (contents key_cmp c.self.inside.table))) c.of.ensures.key ∙ ap (λ (f : Files). get f.files (key_of c.args.user.0 c.args.tag.0 c.args.version.0)) c.self.view_is ∙ c.requires)

pub invariant_of-self : goal.invariant_of-self
invariant_of-self c =
    elim c.match-insert.branch [
      | in-Ok w ↦
          kept-insert c.self.inside.table c.insert.new.self c.self.inside.accounts c.of.result c.in-Some.account c.args.entry c.self.invariant
          (ap (λ (p : PoolContents (Pair FileKey Entry)). p.limits) w.in-Ok.ensures.placed.now_is)
          w.in-Ok.ensures.ok
          (c.in-Some.ensures.account ∙ ap (λ (k : FileKey). account_for c.self.inside.accounts k.user) (sym c.of.ensures.key))
          (subst (λ (k : FileKey). IsKnown c.self.inside.accounts k.user) (sym c.of.ensures.key) c.in-Some.ensures.known)
          c.of.ensures.tag
      | in-Err w ↦ subst (λ (p : PoolContents (Pair FileKey Entry)). IsKept p c.self.inside.accounts) (sym w.in-Err.ensures.err) c.self.invariant
    ]

pub returns-after-insert-clause-ok : goal.returns-after-insert-clause-ok
returns-after-insert-clause-ok c =
    let key = key_of c.args.user.0 c.args.tag.0 c.args.version.0 in
    elim c.match-insert.branch [
      | in-Ok w ↦ rw w.result-is (
          ap (shown value) (w.in-Ok.ensures.ok ∙ ap (λ k. insert (contents key_cmp c.self.inside.table) k (c.in-Some.account, c.args.entry)) c.of.ensures.key)
          ∙ shown-insert value key_total key_exact (contents key_cmp c.self.inside.table) key (c.in-Some.account, c.args.entry)
          ∙ ap (λ (f : Files). insert f.files key c.args.entry) c.self.view_is)
      | in-Err w ↦ rw w.result-is tt
    ]

pub returns-after-insert-clause-refuses : goal.returns-after-insert-clause-refuses
returns-after-insert-clause-refuses c =
    elim c.match-insert.branch [
      | in-Ok w ↦ rw (w.result-is, ← c.self.view_is) (refusal c.self.inside.table c.self.inside.accounts c.self.invariant c.args.user.0 c.in-Some.account _ c.in-Some.ensures.account c.in-Some.ensures.known w.in-Ok.ensures.refuses)
      | in-Err w ↦ rw (w.result-is, ← c.self.view_is) (refusal c.self.inside.table c.self.inside.accounts c.self.invariant c.args.user.0 c.in-Some.account _ c.in-Some.ensures.account c.in-Some.ensures.known w.in-Err.ensures.refuses)
    ]

pub returns-after-insert-clause-full : goal.returns-after-insert-clause-full
returns-after-insert-clause-full c =
    elim c.match-insert.branch [
      | in-Ok w ↦ rw w.result-is tt
      | in-Err w ↦ rw (w.result-is, ← c.self.view_is) (refusal-full c.self.inside.table c.self.inside.accounts c.self.invariant c.args.user.0 c.in-Some.account _ _ c.in-Some.ensures.account c.in-Some.ensures.known w.in-Err.ensures.used w.in-Err.ensures.limit)
    ]

pub returns-in-None-clause-refuses : goal.returns-in-None-clause-refuses
returns-in-None-clause-refuses c =
    let s = stranger c.self.inside.table c.self.inside.accounts c.self.invariant c.args.user.0 c.in-None.ensures.apart c.in-None.ensures.unknown in
    rw (← c.self.view_is) ((λ e. s.0), (λ full. refl))

pub returns-in-None-clause-full : goal.returns-in-None-clause-full
returns-in-None-clause-full c =
    let s = stranger c.self.inside.table c.self.inside.accounts c.self.invariant c.args.user.0 c.in-None.ensures.apart c.in-None.ensures.unknown in
    rw (← c.self.view_is) s.1
