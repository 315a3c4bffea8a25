use Rattle.std.proofs.Common.{subst}
use Rattle.std.specs.FinMap.{get}
use Rattle.record_checks.specs.CloudMemory.Rooms.{memory_of}
use Rattle.record_checks.specs.Steps.{KeptFacts}
use Rattle.record_checks.proofs.Faults.{found_iff}
use Rattle.record_checks.proofs.KeptWalking.{goes_on, fails, fault_within}
use Rattle.first_records.specs.Steps.{HasKeptsRoom}
use Rattle.first_records.proofs.Rooms.{kept_room, kept_room_after}
use Rattle.first_records.proofs.kepts.take_items.Goals as goal

pub returns-in-Some-kept_fault-clause-right : goal.returns-in-Some-kept_fault-clause-right
returns-in-Some-kept_fault-clause-right c =
    let m = memory_of c.loop-found.memory in
    let item = c.in-Some.found.item in
    let facts : KeptFacts m item.fp c.is_some-placed.result c.shares_end-end.result = record {
      laid = found_iff c.is_some-placed.result c.place_of.result (get m.places item.fp.0) c.is_some-placed.ensures c.place_of.ensures.kept;
      end_is = c.shares_end-end.ensures;
    } in
    fails c.args.ground.now c.args.inside (memory_of c.args.memory.now) m c.args.items c.loop-found.items c.next.new.self c.in-Some.found c.in-Some-kept_fault.place c.loop-found.invariant.0
    c.in-Some.ensures (c.in-Some-kept_fault.ensures.fault m facts)

pub returns-in-Some-kept_fault-clause-within : goal.returns-in-Some-kept_fault-clause-within
returns-in-Some-kept_fault-clause-within c =
    let m = memory_of c.loop-found.memory in
    let item = c.in-Some.found.item in
    let facts : KeptFacts m item.fp c.is_some-placed.result c.shares_end-end.result = record {
      laid = found_iff c.is_some-placed.result c.place_of.result (get m.places item.fp.0) c.is_some-placed.ensures c.place_of.ensures.kept;
      end_is = c.shares_end-end.ensures;
    } in
    fault_within c.args.ground.now c.args.inside (memory_of c.args.memory.now) m c.args.items c.loop-found.items c.next.new.self c.in-Some.found c.in-Some-kept_fault.place c.loop-found.invariant.0
    c.in-Some.ensures (c.in-Some-kept_fault.ensures.fault m facts)

pub take_kept-requires : goal.take_kept-requires
take_kept-requires c =
    let m = memory_of c.loop-found.memory in
    let item = c.in-Some.found.item in
    let facts : KeptFacts m item.fp c.is_some-placed.result c.shares_end-end.result = record {
      laid = found_iff c.is_some-placed.result c.place_of.result (get m.places item.fp.0) c.is_some-placed.ensures c.place_of.ensures.kept;
      end_is = c.shares_end-end.ensures;
    } in
    kept_room c.args.ground.now c.args.inside c.loop-found.memory item c.next.new.self.items
    (subst (HasKeptsRoom c.loop-found.memory) c.in-Some.ensures.items c.loop-found.invariant.1)
    (c.in-None.ensures.fault m facts) c.in-None.ensures.small

pub loop-found-preserved : goal.loop-found-preserved
loop-found-preserved c =
    let g = c.args.ground.now in
    let m = memory_of c.loop-found.memory in
    let item = c.in-Some.found.item in
    let facts : KeptFacts m item.fp c.is_some-placed.result c.shares_end-end.result = record {
      laid = found_iff c.is_some-placed.result c.place_of.result (get m.places item.fp.0) c.is_some-placed.ensures c.place_of.ensures.kept;
      end_is = c.shares_end-end.ensures;
    } in
    let right = c.in-None.ensures.fault m facts in
    let room = subst (HasKeptsRoom c.loop-found.memory) c.in-Some.ensures.items c.loop-found.invariant.1 in (
      goes_on g c.args.inside (memory_of c.args.memory.now) m (memory_of c.take_kept.new.self) c.args.items c.loop-found.items c.next.new.self c.in-Some.found c.loop-found.invariant.0
          c.in-Some.ensures right c.take_kept.ensures.taken,
      kept_room_after g c.args.inside c.loop-found.memory c.take_kept.new.self item c.next.new.self.items room right c.take_kept.ensures.taken c.take_kept.ensures.greatest,
    )
