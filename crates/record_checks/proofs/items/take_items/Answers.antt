use Rattle.std.proofs.Common.{◌<◌, List, ℕ, ◌∙◌, ap, subst, length}
use Rattle.std.specs.FinMap.{get}
use Rattle.cloud_memory.specs.Memory.{Memory}
use Rattle.cloud_memory.specs.Rooms.{memory_of}
use Rattle.record_checks.specs.Checks.{damaged_at}
use Rattle.record_checks.specs.Noting.{farther_field, put_field}
use Rattle.record_checks.specs.Steps.{Facts, HasRoomForItems}
use Rattle.record_checks.proofs.Faults.{found_iff}
use Rattle.record_checks.proofs.Rooming.{item_room, room_after}
use Rattle.record_checks.proofs.Walking.{goes_on, fails, fault_within, field_on}
use Rattle.record_checks.proofs.items.take_items.Goals as goal

pub returns-in-Some-item_fault-clause-right : goal.returns-in-Some-item_fault-clause-right
returns-in-Some-item_fault-clause-right c =
    let m = memory_of c.loop-found.memory in
    let item = c.in-Some.found.item in
    let facts : Facts m c.args.user item.fp c.owns-owned.result c.is_some-placed.result c.shares_end-end.result = record {
      own = c.owns-owned.ensures.kept;
      laid = λ new. found_iff c.is_some-placed.result c.place_of.result (get m.places item.fp.0) c.is_some-placed.ensures c.place_of.ensures.kept;
      end_is = c.shares_end-end.ensures;
    } in
    fails c.args.ground.now c.args.inside c.args.user (memory_of c.args.memory.now) m c.args.items c.loop-found.items c.next.new.self c.in-Some.found c.in-Some-item_fault.place c.loop-found.invariant.0
    c.in-Some.ensures (c.in-Some-item_fault.ensures.fault m c.args.user facts)

pub returns-in-Some-item_fault-clause-within : goal.returns-in-Some-item_fault-clause-within
returns-in-Some-item_fault-clause-within c =
    let m = memory_of c.loop-found.memory in
    let item = c.in-Some.found.item in
    let facts : Facts m c.args.user item.fp c.owns-owned.result c.is_some-placed.result c.shares_end-end.result = record {
      own = c.owns-owned.ensures.kept;
      laid = λ new. found_iff c.is_some-placed.result c.place_of.result (get m.places item.fp.0) c.is_some-placed.ensures c.place_of.ensures.kept;
      end_is = c.shares_end-end.ensures;
    } in
    subst (λ (l : List ℕ). c.in-Some-item_fault.place < length l) c.requires.body
    (fault_within c.args.ground.now c.args.inside c.args.user (memory_of c.args.memory.now) m c.args.items c.loop-found.items c.next.new.self c.in-Some.found c.in-Some-item_fault.place c.loop-found.invariant.0
    c.in-Some.ensures (c.in-Some-item_fault.ensures.fault m c.args.user facts))

pub take_item-requires : goal.take_item-requires
take_item-requires c =
    let m = memory_of c.loop-found.memory in
    let item = c.in-Some.found.item in
    let facts : Facts m c.args.user item.fp c.owns-owned.result c.is_some-placed.result c.shares_end-end.result = record {
      own = c.owns-owned.ensures.kept;
      laid = λ new. found_iff c.is_some-placed.result c.place_of.result (get m.places item.fp.0) c.is_some-placed.ensures c.place_of.ensures.kept;
      end_is = c.shares_end-end.ensures;
    } in
    item_room c.args.ground.now c.args.inside c.args.user c.loop-found.memory item c.next.new.self.items
    (subst (HasRoomForItems c.args.ground.now.rooms c.loop-found.memory c.args.user) c.in-Some.ensures.items c.loop-found.invariant.1.0)
    (c.in-None.ensures.fault m c.args.user facts) c.in-None.ensures.small

pub loop-found-preserved : goal.loop-found-preserved
loop-found-preserved c =
    let g = c.args.ground.now in
    let m = memory_of c.loop-found.memory in
    let item = c.in-Some.found.item in
    let facts : Facts m c.args.user item.fp c.owns-owned.result c.is_some-placed.result c.shares_end-end.result = record {
      own = c.owns-owned.ensures.kept;
      laid = λ new. found_iff c.is_some-placed.result c.place_of.result (get m.places item.fp.0) c.is_some-placed.ensures c.place_of.ensures.kept;
      end_is = c.shares_end-end.ensures;
    } in
    let right = c.in-None.ensures.fault m c.args.user facts in
    let room = subst (HasRoomForItems g.rooms c.loop-found.memory c.args.user) c.in-Some.ensures.items c.loop-found.invariant.1.0 in
    let end = ap (λ (x : Memory). x.shares_end) c.take_item.ensures.taken in (
      goes_on g c.args.inside c.args.user (memory_of c.args.memory.now) m (memory_of c.take_item.new.self) c.args.items c.loop-found.items c.next.new.self c.in-Some.found c.loop-found.invariant.0
          c.in-Some.ensures right c.take_item.ensures.taken,
      (
        room_after g c.args.inside c.args.user c.loop-found.memory c.take_item.new.self item c.next.new.self.items room right c.take_item.ensures.taken
            (c.take_item.ensures.rooms g.rooms room.rooms_are),
        ap (λ (n : ℕ). put_field c.args.at c.args.body.now n c.next.new.self.at c.note.new.field c.next.new.self.items) end
            ∙ field_on c.args.at c.args.body.now c.args.items c.loop-found.items c.next.new.self c.in-Some.found c.loop-found.memory.shares_end c.args.memory.now.shares_end c.loop-found.field c.args.field.now
            c.note.new.field c.in-Some.ensures c.loop-found.invariant.1.1
            (c.note.ensures ∙ ap (λ (n : ℕ). farther_field n c.loop-found.field item.place (damaged_at c.args.at c.args.body.now c.in-Some.found.place_at)) c.shares_end-end.ensures),
      ),
    )
