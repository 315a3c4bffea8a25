use Rattle.std.proofs.Common.{sym, subst, ap, arith, length}
use Rattle.pool_map.specs.Index.{IsBeforeKey, IsBeforeGap}
use Rattle.pool_map.proofs.Above.{least-by-map, none-by-map}
use Rattle.pool_map.proofs.Ring.{IsNext, key-below, key-number, gap-below, key-next, gap-next, next-held, next-least, next-none}
use Rattle.pool_map.proofs.sorted.SortedTable.above.Goals as goal
use Rattle.pool_map.proofs.sorted.SortedTable.above.Goals.{in-Ok, in-Err}

pub index-requires : goal.index-requires
index-requires g c = omega (arith, c.deref.ensures.len, key-below g.K.Ord.cmp g.met.K.Ord.total c.self.inside.pool.slots c.deref.result.now c.args.key.now c.in-Ok.before c.in-Ok.ensures.found)

pub index-requires-in-Ok : goal.index-requires-in-Ok
index-requires-in-Ok g c =
    let h = subst (λ o. IsBeforeKey g.K.Ord.cmp c.self.inside.pool.slots o c.args.key.now c.in-Ok.before) c.deref.ensures.value c.in-Ok.ensures.found in
    omega (arith, c.deref.ensures.len, ap length c.deref.ensures.value, h.ordered.lengths, key-number g.K.Ord.cmp g.met.K.Ord.total c.self.inside.pool.slots c.self.inside.next.items c.args.key.now c.in-Ok.before h c.index.result.now c.index.ensures)

pub index-requires-in-Err : goal.index-requires-in-Err
index-requires-in-Err g c = omega (arith, c.deref.ensures.len, gap-below g.K.Ord.cmp g.met.K.Ord.total c.self.inside.pool.slots c.deref.result.now c.args.key.now c.in-Err.before c.in-Err.ensures.absent)

pub get-entry-requires : goal.get-entry-requires
get-entry-requires g c =
    let found : IsNext g.K.Ord.cmp c.self.inside.pool.slots c.args.key.now c.match-place.at = elim c.match-place.branch [
      | in-Ok w ↦ subst (IsNext g.K.Ord.cmp c.self.inside.pool.slots c.args.key.now) (sym w.at-is) (key-next g.K.Ord.cmp g.met.K.Ord.total c.self.inside.pool.slots c.self.inside.next.items c.args.key.now w.in-Ok.before (subst (λ o. IsBeforeKey g.K.Ord.cmp c.self.inside.pool.slots o c.args.key.now w.in-Ok.before) c.deref.ensures.value w.in-Ok.ensures.found) w.index.result.now w.index-in-Ok.result.now w.index.ensures w.index-in-Ok.ensures)
      | in-Err w ↦ subst (IsNext g.K.Ord.cmp c.self.inside.pool.slots c.args.key.now) (sym w.at-is) (gap-next g.K.Ord.cmp g.met.K.Ord.total c.self.inside.pool.slots c.self.inside.next.items c.args.key.now w.in-Err.before (subst (λ o. IsBeforeGap g.K.Ord.cmp c.self.inside.pool.slots o c.args.key.now w.in-Err.before) c.deref.ensures.value w.in-Err.ensures.absent) w.index-in-Err.result.now w.index-in-Err.ensures)
    ] in
    next-held g.K.Ord.cmp g.met.K.Ord.total c.self.inside.pool.slots c.args.key.now c.match-place.at found (omega (arith, c.slots.ensures))

pub returns-then-at-slots : goal.returns-then-at-slots
returns-then-at-slots g c =
    let found : IsNext g.K.Ord.cmp c.self.inside.pool.slots c.args.key.now c.match-place.at = elim c.match-place.branch [
      | in-Ok w ↦ subst (IsNext g.K.Ord.cmp c.self.inside.pool.slots c.args.key.now) (sym w.at-is) (key-next g.K.Ord.cmp g.met.K.Ord.total c.self.inside.pool.slots c.self.inside.next.items c.args.key.now w.in-Ok.before (subst (λ o. IsBeforeKey g.K.Ord.cmp c.self.inside.pool.slots o c.args.key.now w.in-Ok.before) c.deref.ensures.value w.in-Ok.ensures.found) w.index.result.now w.index-in-Ok.result.now w.index.ensures w.index-in-Ok.ensures)
      | in-Err w ↦ subst (IsNext g.K.Ord.cmp c.self.inside.pool.slots c.args.key.now) (sym w.at-is) (gap-next g.K.Ord.cmp g.met.K.Ord.total c.self.inside.pool.slots c.self.inside.next.items c.args.key.now w.in-Err.before (subst (λ o. IsBeforeGap g.K.Ord.cmp c.self.inside.pool.slots o c.args.key.now w.in-Err.before) c.deref.ensures.value w.in-Err.ensures.absent) w.index-in-Err.result.now w.index-in-Err.ensures)
    ] in
    rw (← c.self.view_is) (least-by-map g.K.Ord.cmp g.met.K.Ord.total g.met.K.Key.exact c.self.inside.pool.slots c.args.key.now _ (next-least g.K.Ord.cmp g.met.K.Ord.total c.self.inside.pool.slots c.args.key.now c.match-place.at found (omega (arith, c.slots.ensures)) c.get-entry.result.now c.get-entry.ensures))

pub returns-else-at-slots : goal.returns-else-at-slots
returns-else-at-slots g c =
    let found : IsNext g.K.Ord.cmp c.self.inside.pool.slots c.args.key.now c.match-place.at = elim c.match-place.branch [
      | in-Ok w ↦ subst (IsNext g.K.Ord.cmp c.self.inside.pool.slots c.args.key.now) (sym w.at-is) (key-next g.K.Ord.cmp g.met.K.Ord.total c.self.inside.pool.slots c.self.inside.next.items c.args.key.now w.in-Ok.before (subst (λ o. IsBeforeKey g.K.Ord.cmp c.self.inside.pool.slots o c.args.key.now w.in-Ok.before) c.deref.ensures.value w.in-Ok.ensures.found) w.index.result.now w.index-in-Ok.result.now w.index.ensures w.index-in-Ok.ensures)
      | in-Err w ↦ subst (IsNext g.K.Ord.cmp c.self.inside.pool.slots c.args.key.now) (sym w.at-is) (gap-next g.K.Ord.cmp g.met.K.Ord.total c.self.inside.pool.slots c.self.inside.next.items c.args.key.now w.in-Err.before (subst (λ o. IsBeforeGap g.K.Ord.cmp c.self.inside.pool.slots o c.args.key.now w.in-Err.before) c.deref.ensures.value w.in-Err.ensures.absent) w.index-in-Err.result.now w.index-in-Err.ensures)
    ] in
    rw (← c.self.view_is) (none-by-map g.K.Ord.cmp g.met.K.Ord.total g.met.K.Key.exact c.self.inside.pool.slots c.args.key.now (next-none g.K.Ord.cmp g.met.K.Ord.total c.self.inside.pool.slots c.args.key.now c.match-place.at found (omega (arith, c.slots.ensures))))
