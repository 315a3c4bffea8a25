use Rattle.std.proofs.Common.{subst}
use Rattle.std.specs.FinMap.{get}
use Rattle.record_checks.specs.CloudMemory.Rooms.{memory_of}
use Rattle.record_checks.specs.Steps.{Facts}
use Rattle.record_checks.proofs.Faults.{found_iff}
use Rattle.record_checks.proofs.Walking.{goes_on, fails, fault_within}
use Rattle.first_records.specs.Steps.{HasItemsRoom}
use Rattle.first_records.proofs.Rooms.{item_room, item_room_after}
use Rattle.first_records.proofs.puts.take_items.Goals as goal

pub returns-in-Some-item_fault-clause-right : goal.returns-in-Some-item_fault-clause-right
returns-in-Some-item_fault-clause-right c =
    let m = memory_of c.loop-found.memory in
    let item = c.in-Some.found.item in
    let facts : Facts m c.args.user item.fp c.owns-owned.result c.is_some-placed.result c.shares_end-end.result = record {
      own = c.owns-owned.ensures.kept;
      laid = λ new. found_iff c.is_some-placed.result c.place_of.result (get m.places item.fp.0) c.is_some-placed.ensures c.place_of.ensures.kept;
      end_is = c.shares_end-end.ensures;
    } in
    fails c.args.ground.now c.args.inside c.args.user (memory_of c.args.memory.now) m c.args.items c.loop-found.items c.next.new.self c.in-Some.found c.in-Some-item_fault.place c.loop-found.invariant.0
    c.in-Some.ensures (c.in-Some-item_fault.ensures.fault m c.args.user facts)

pub returns-in-Some-item_fault-clause-within : goal.returns-in-Some-item_fault-clause-within
returns-in-Some-item_fault-clause-within c =
    let m = memory_of c.loop-found.memory in
    let item = c.in-Some.found.item in
    let facts : Facts m c.args.user item.fp c.owns-owned.result c.is_some-placed.result c.shares_end-end.result = record {
      own = c.owns-owned.ensures.kept;
      laid = λ new. found_iff c.is_some-placed.result c.place_of.result (get m.places item.fp.0) c.is_some-placed.ensures c.place_of.ensures.kept;
      end_is = c.shares_end-end.ensures;
    } in
    fault_within c.args.ground.now c.args.inside c.args.user (memory_of c.args.memory.now) m c.args.items c.loop-found.items c.next.new.self c.in-Some.found c.in-Some-item_fault.place c.loop-found.invariant.0
    c.in-Some.ensures (c.in-Some-item_fault.ensures.fault m c.args.user facts)

pub take_item-requires : goal.take_item-requires
take_item-requires c =
    let m = memory_of c.loop-found.memory in
    let item = c.in-Some.found.item in
    let facts : Facts m c.args.user item.fp c.owns-owned.result c.is_some-placed.result c.shares_end-end.result = record {
      own = c.owns-owned.ensures.kept;
      laid = λ new. found_iff c.is_some-placed.result c.place_of.result (get m.places item.fp.0) c.is_some-placed.ensures c.place_of.ensures.kept;
      end_is = c.shares_end-end.ensures;
    } in
    item_room c.args.ground.now c.args.inside c.args.user c.loop-found.memory item c.next.new.self.items
    (subst (HasItemsRoom c.loop-found.memory) c.in-Some.ensures.items c.loop-found.invariant.1)
    (c.in-None.ensures.fault m c.args.user facts) c.in-None.ensures.small

pub loop-found-preserved : goal.loop-found-preserved
loop-found-preserved c =
    let g = c.args.ground.now in
    let m = memory_of c.loop-found.memory in
    let item = c.in-Some.found.item in
    let facts : Facts m c.args.user item.fp c.owns-owned.result c.is_some-placed.result c.shares_end-end.result = record {
      own = c.owns-owned.ensures.kept;
      laid = λ new. found_iff c.is_some-placed.result c.place_of.result (get m.places item.fp.0) c.is_some-placed.ensures c.place_of.ensures.kept;
      end_is = c.shares_end-end.ensures;
    } in
    let right = c.in-None.ensures.fault m c.args.user facts in
    let room = subst (HasItemsRoom c.loop-found.memory) c.in-Some.ensures.items c.loop-found.invariant.1 in (
      goes_on g c.args.inside c.args.user (memory_of c.args.memory.now) m (memory_of c.take_item.new.self) c.args.items c.loop-found.items c.next.new.self c.in-Some.found c.loop-found.invariant.0
          c.in-Some.ensures right c.take_item.ensures.taken,
      item_room_after g c.args.inside c.args.user c.loop-found.memory c.take_item.new.self item c.next.new.self.items room right c.take_item.ensures.taken c.take_item.ensures.greatest,
    )
