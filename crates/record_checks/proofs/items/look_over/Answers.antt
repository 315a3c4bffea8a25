use Rattle.std.proofs.Common.{◌≡◌, ℕ, ◌+◌, ◌∷◌, drop, take, sym, ap, ◌∙◌}
use Rattle.std.specs.FinMap.{get}
use Rattle.cloud_memory.specs.Memory.{Memory}
use Rattle.cloud_memory.specs.Rooms.{memory_of}
use Rattle.cloud_memory.specs.Steps.{with_items, end_with}
use Rattle.record_checks.specs.Steps.{Facts}
use Rattle.record_checks.proofs.Faults.{found_iff}
use Rattle.record_checks.proofs.Overlaying.{cut, items_more}
use Rattle.record_checks.proofs.Walking.{goes_on, fails, fault_within}
use Rattle.record_checks.proofs.items.look_over.Goals as goal

pub returns-in-Some-item_fault-clause-right : goal.returns-in-Some-item_fault-clause-right
returns-in-Some-item_fault-clause-right c =
    let old = memory_of c.args.memory.now in
    let m = with_items c.args.user old (take c.loop-found.seen c.args.items.now.items) in
    let item = c.in-Some.found.item in
    let facts : Facts m c.args.user item.fp c.is_own-owned.result c.is_some-placed.result c.loop-found.end = record {
      own = c.is_own-owned.ensures.own;
      laid = λ new. found_iff c.is_some-placed.result c.place_of.result (get m.places item.fp.0) c.is_some-placed.ensures (c.place_of.ensures.kept ∙ sym (c.is_own-owned.ensures.places new));
      end_is = c.loop-found.invariant.1.1;
    } in
    fails c.args.ground.now c.args.inside c.args.user old m c.args.items.now c.loop-found.walk c.next.new.self c.in-Some.found c.in-Some-item_fault.place c.loop-found.invariant.0
    c.in-Some.ensures (c.in-Some-item_fault.ensures.fault m c.args.user facts)

pub returns-in-Some-item_fault-clause-within : goal.returns-in-Some-item_fault-clause-within
returns-in-Some-item_fault-clause-within c =
    let old = memory_of c.args.memory.now in
    let m = with_items c.args.user old (take c.loop-found.seen c.args.items.now.items) in
    let item = c.in-Some.found.item in
    let facts : Facts m c.args.user item.fp c.is_own-owned.result c.is_some-placed.result c.loop-found.end = record {
      own = c.is_own-owned.ensures.own;
      laid = λ new. found_iff c.is_some-placed.result c.place_of.result (get m.places item.fp.0) c.is_some-placed.ensures (c.place_of.ensures.kept ∙ sym (c.is_own-owned.ensures.places new));
      end_is = c.loop-found.invariant.1.1;
    } in
    fault_within c.args.ground.now c.args.inside c.args.user old m c.args.items.now c.loop-found.walk c.next.new.self c.in-Some.found c.in-Some-item_fault.place c.loop-found.invariant.0
    c.in-Some.ensures (c.in-Some-item_fault.ensures.fault m c.args.user facts)

pub loop-found-preserved : goal.loop-found-preserved
loop-found-preserved c =
    let old = memory_of c.args.memory.now in
    let all = c.args.items.now.items in
    let m = with_items c.args.user old (take c.loop-found.seen all) in
    let item = c.in-Some.found.item in
    let facts : Facts m c.args.user item.fp c.is_own-owned.result c.is_some-placed.result c.loop-found.end = record {
      own = c.is_own-owned.ensures.own;
      laid = λ new. found_iff c.is_some-placed.result c.place_of.result (get m.places item.fp.0) c.is_some-placed.ensures (c.place_of.ensures.kept ∙ sym (c.is_own-owned.ensures.places new));
      end_is = c.loop-found.invariant.1.1;
    } in
    let right = c.in-None.ensures.fault m c.args.user facts in
    let at : drop c.loop-found.seen all ≡ item ∷ c.next.new.self.items = c.loop-found.invariant.1.0 ∙ c.in-Some.ensures.items in
    let more = items_more c.args.user old all c.loop-found.seen item c.next.new.self.items at in (
      goes_on c.args.ground.now c.args.inside c.args.user old m (with_items c.args.user old (take (c.loop-found.seen + 1) all)) c.args.items.now c.loop-found.walk c.next.new.self c.in-Some.found c.loop-found.invariant.0
          c.in-Some.ensures right more,
      (
        (cut all c.loop-found.seen item c.next.new.self.items at).1,
        c.end_behind-end.ensures ∙ ap (λ (n : ℕ). end_with n item.place) c.loop-found.invariant.1.1 ∙ ap (λ (x : Memory). x.shares_end) (sym more),
      ),
    )
