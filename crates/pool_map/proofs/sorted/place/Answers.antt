use Rattle.std.proofs.Common.{◌≢◌, ◌∙◌, length, get_or, sym, ap, arith, subst}
use Rattle.slot_pool.specs.Pool.{IsHeld}
use Rattle.pool_map.specs.declared.KeyedValue.{KeyedValue}
use Rattle.pool_map.proofs.Ring.{start-seek, seek-below, seek-end, seek-out, seek-live, seek-step, seek-found, seek-gap}
use Rattle.pool_map.proofs.Steps.{read-value}
use Rattle.pool_map.proofs.sorted.place.Goals as goal

pub loop-step-init : goal.loop-step-init
loop-step-init g c = start-seek g.K.Ord.cmp g.met.K.Ord.total c.args.pool.now.slots c.args.next.now c.args.key.now c.args.start c.requires.ordered c.requires.start

pub bounds-next-at : goal.bounds-next-at
bounds-next-at g c = seek-below g.K.Ord.cmp g.met.K.Ord.total c.args.pool.now.slots c.args.next.now c.args.key.now c.loop-step.at c.loop-step._step c.loop-step.invariant

pub returns-then-after-end-clause-absent : goal.returns-then-after-end-clause-absent
returns-then-after-end-clause-absent g c = seek-end g.K.Ord.cmp g.met.K.Ord.total c.args.pool.now.slots c.args.next.now c.args.key.now c.loop-step.at c.loop-step._step c.loop-step.invariant (c.if-after-end.true ∙ c.slots-end.ensures)

pub get-entry-requires : goal.get-entry-requires
get-entry-requires g c =
    let x = seek-live g.K.Ord.cmp g.met.K.Ord.total c.args.pool.now.slots c.args.next.now c.args.key.now c.loop-step.at c.loop-step._step c.loop-step.invariant (λ e. c.if-after-end.false (e ∙ sym c.slots-end.ensures)) in
    subst IsHeld (sym x.2) tt

pub loop-step-preserved : goal.loop-step-preserved
loop-step-preserved g c =
    let more : get_or c.args.next.now c.loop-step.at 0 ≢ length c.args.pool.now.slots = λ e. c.if-after-end.false (e ∙ sym c.slots-end.ensures) in
    let x = seek-live g.K.Ord.cmp g.met.K.Ord.total c.args.pool.now.slots c.args.next.now c.args.key.now c.loop-step.at c.loop-step._step c.loop-step.invariant more in
    let same = read-value _ x.0 x.1 c.get-entry.result.now x.2 c.get-entry.ensures in
    seek-step g.K.Ord.cmp g.met.K.Ord.total c.args.pool.now.slots c.args.next.now c.args.key.now c.loop-step.at c.loop-step._step c.loop-step.invariant more x.0 x.1 x.2 (ap (λ (y : KeyedValue g.row.K.Denot g.row.W.Denot). g.K.Ord.cmp y.key c.args.key.now) same ∙ sym c.cmp.ensures ∙ c.in-Less.is)

pub returns-in-Equal-clause-found : goal.returns-in-Equal-clause-found
returns-in-Equal-clause-found g c =
    let more : get_or c.args.next.now c.loop-step.at 0 ≢ length c.args.pool.now.slots = λ e. c.if-after-end.false (e ∙ sym c.slots-end.ensures) in
    let x = seek-live g.K.Ord.cmp g.met.K.Ord.total c.args.pool.now.slots c.args.next.now c.args.key.now c.loop-step.at c.loop-step._step c.loop-step.invariant more in
    let same = read-value _ x.0 x.1 c.get-entry.result.now x.2 c.get-entry.ensures in
    seek-found g.K.Ord.cmp g.met.K.Ord.total c.args.pool.now.slots c.args.next.now c.args.key.now c.loop-step.at c.loop-step._step c.loop-step.invariant more x.0 x.1 x.2 (ap (λ (y : KeyedValue g.row.K.Denot g.row.W.Denot). g.K.Ord.cmp y.key c.args.key.now) same ∙ sym c.cmp.ensures ∙ c.in-Equal.is)

pub returns-in-Greater-clause-absent : goal.returns-in-Greater-clause-absent
returns-in-Greater-clause-absent g c =
    let more : get_or c.args.next.now c.loop-step.at 0 ≢ length c.args.pool.now.slots = λ e. c.if-after-end.false (e ∙ sym c.slots-end.ensures) in
    let x = seek-live g.K.Ord.cmp g.met.K.Ord.total c.args.pool.now.slots c.args.next.now c.args.key.now c.loop-step.at c.loop-step._step c.loop-step.invariant more in
    let same = read-value _ x.0 x.1 c.get-entry.result.now x.2 c.get-entry.ensures in
    seek-gap g.K.Ord.cmp g.met.K.Ord.total c.args.pool.now.slots c.args.next.now c.args.key.now c.loop-step.at c.loop-step._step c.loop-step.invariant more x.0 x.1 x.2 (ap (λ (y : KeyedValue g.row.K.Denot g.row.W.Denot). g.K.Ord.cmp y.key c.args.key.now) same ∙ sym c.cmp.ensures ∙ c.in-Greater.is)

pub returns-clause-absent : goal.returns-clause-absent
returns-clause-absent g c = seek-out g.K.Ord.cmp g.met.K.Ord.total c.args.pool.now.slots c.args.next.now c.args.key.now c.loop-step.at c.loop-step._step c.loop-step.invariant (omega (arith, c.slots-end.ensures))
