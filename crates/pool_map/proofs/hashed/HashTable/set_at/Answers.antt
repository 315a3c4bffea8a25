use Rattle.std.proofs.Common.{◌∙◌, set, ap, Some}
use Rattle.std.specs.FinMap.{from_entries}
use Rattle.pool_map.specs.Table.{pairs}
use Rattle.pool_map.proofs.Standing.{here-held, here-at}
use Rattle.pool_map.proofs.Walks.{get-some}
use Rattle.pool_map.proofs.Rewrite.{new-content, rewrite-hashed, rewrite-count, rewrite-contents, rewrites}
use Rattle.pool_map.proofs.hashed.HashTable.set_at.Goals as goal

pub invariant_of-self : goal.invariant_of-self
invariant_of-self g c =
    let own = here-held g.K.Ord.cmp g.met.K.Ord.total c.self.inside.pool c.args.slot (rw (← c.self.view_is) at c.requires) in
    let same = new-content _ own.1.account own.1.entry c.get_mut.result.now c.replace.new.dest c.args.value own.1.holds c.get_mut.ensures.value c.replace.ensures.after in
    rw same (
      rewrite-hashed g.K.Ord.cmp g.met.K.Ord.total g.met.K.Key.exact g.K.Key.word_of c.self.inside.pool.slots c.self.inside.chains.heads.items c.self.inside.chains.next.items c.self.invariant.0 own.0 c.args.slot own.1 c.args.value,
      c.self.invariant.1 ∙ rewrite-count g.K.Ord.cmp g.met.K.Ord.total g.met.K.Key.exact g.K.Key.word_of c.self.inside.pool.slots c.self.inside.chains.heads.items c.self.inside.chains.next.items c.self.invariant.0 own.0 c.args.slot own.1 c.args.value,
    )

pub returns-clause-value : goal.returns-clause-value
returns-clause-value g c = rw (← c.self.view_is) (λ key stands.
    ap Some c.replace.ensures.value
    ∙ get-some g.K.Ord.cmp g.met.K.Ord.total g.met.K.Key.exact g.K.Key.word_of c.self.inside.pool.slots c.self.inside.chains.heads.items c.self.inside.chains.next.items c.self.invariant.0 key c.args.slot c.get_mut.result.now (here-at g.K.Ord.cmp g.met.K.Ord.total c.self.inside.pool c.args.slot key stands) c.get_mut.ensures.value)

pub returns-clause-replaced : goal.returns-clause-replaced
returns-clause-replaced g c = rw (← c.self.view_is) (λ key stands.
    let here = here-at g.K.Ord.cmp g.met.K.Ord.total c.self.inside.pool c.args.slot key stands in
    let same = new-content _ here.account here.entry c.get_mut.result.now c.replace.new.dest c.args.value here.holds c.get_mut.ensures.value c.replace.ensures.after in
    ap (λ x. from_entries {R = g.K.Ord.cmp} (pairs (set c.self.inside.pool.slots c.args.slot x))) same
    ∙ rewrite-contents g.K.Ord.cmp g.met.K.Ord.total g.met.K.Key.exact g.K.Key.word_of c.self.inside.pool.slots c.self.inside.chains.heads.items c.self.inside.chains.next.items c.self.invariant.0 key c.args.slot here c.args.value)

pub returns-clause-slots : goal.returns-clause-slots
returns-clause-slots g c = rw (← c.self.view_is) (λ key stands.
    let here = here-at g.K.Ord.cmp g.met.K.Ord.total c.self.inside.pool c.args.slot key stands in
    rewrites g.K.Ord.cmp c.self.inside.pool key c.args.slot here c.args.value _ (new-content _ here.account here.entry c.get_mut.result.now c.replace.new.dest c.args.value here.holds c.get_mut.ensures.value c.replace.ensures.after))
