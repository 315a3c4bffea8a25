use Rattle.std.proofs.Common.{◌∙◌, set, sym, ap, true≢false, Some}
use Rattle.std.specs.Prelude.{is_some}
use Rattle.std.specs.FinMap.{from_entries}
use Rattle.pool_map.specs.Table.{pairs}
use Rattle.pool_map.proofs.Walks.{get-some, at-none}
use Rattle.pool_map.proofs.Rewrite.{new-content, rewrite-hashed, rewrite-count, rewrite-ordered, rewrite-contents, rewrites}
use Rattle.pool_map.proofs.sorted.SortedTable.replace.Goals as goal

pub invariant_of-self : goal.invariant_of-self
invariant_of-self g c =
    let here = c.in-Some.ensures.found in
    let same = new-content _ here.account here.entry c.get_mut.result.now c.replace.new.dest c.args.value here.holds c.get_mut.ensures.value c.replace.ensures.after in
    let inside = c.self.inside in
    rw same (
      rewrite-ordered g.K.Ord.cmp g.met.K.Ord.total g.met.K.Key.exact g.K.Key.word_of inside.pool.slots inside.chains.heads.items inside.chains.next.items c.self.invariant.2 c.args.key.now c.in-Some.number here c.args.value inside.next.items c.self.invariant.0,
      c.self.invariant.1 ∙ rewrite-count g.K.Ord.cmp g.met.K.Ord.total g.met.K.Key.exact g.K.Key.word_of inside.pool.slots inside.chains.heads.items inside.chains.next.items c.self.invariant.2 c.args.key.now c.in-Some.number here c.args.value,
      rewrite-hashed g.K.Ord.cmp g.met.K.Ord.total g.met.K.Key.exact g.K.Key.word_of inside.pool.slots inside.chains.heads.items inside.chains.next.items c.self.invariant.2 c.args.key.now c.in-Some.number here c.args.value,
    )

pub unreachable-requires : goal.unreachable-requires
unreachable-requires g c = true≢false (sym (rw (← c.self.view_is) at c.requires) ∙ ap is_some (at-none g.K.Ord.cmp g.met.K.Ord.total g.met.K.Key.exact g.K.Key.word_of c.self.inside.pool.slots c.args.key.now c.in-None.ensures.absent))

pub returns-clause-value : goal.returns-clause-value
returns-clause-value g c =
    ap Some c.replace.ensures.value
    ∙ (rw (← c.self.view_is) (get-some g.K.Ord.cmp g.met.K.Ord.total g.met.K.Key.exact g.K.Key.word_of c.self.inside.pool.slots c.self.inside.chains.heads.items c.self.inside.chains.next.items c.self.invariant.2 c.args.key.now c.in-Some.number c.get_mut.result.now c.in-Some.ensures.found c.get_mut.ensures.value))

pub returns-clause-replaced : goal.returns-clause-replaced
returns-clause-replaced g c =
    let here = c.in-Some.ensures.found in
    let same = new-content _ here.account here.entry c.get_mut.result.now c.replace.new.dest c.args.value here.holds c.get_mut.ensures.value c.replace.ensures.after in
    ap (λ x. from_entries {R = g.K.Ord.cmp} (pairs (set c.self.inside.pool.slots c.in-Some.number x))) same
    ∙ (rw (← c.self.view_is) (rewrite-contents g.K.Ord.cmp g.met.K.Ord.total g.met.K.Key.exact g.K.Key.word_of c.self.inside.pool.slots c.self.inside.chains.heads.items c.self.inside.chains.next.items c.self.invariant.2 c.args.key.now c.in-Some.number here c.args.value))

pub returns-clause-slots : goal.returns-clause-slots
returns-clause-slots g c =
    let here = c.in-Some.ensures.found in
    rw (← c.self.view_is) (rewrites g.K.Ord.cmp c.self.inside.pool c.args.key.now c.in-Some.number here c.args.value _ (new-content _ here.account here.entry c.get_mut.result.now c.replace.new.dest c.args.value here.holds c.get_mut.ensures.value c.replace.ensures.after))
