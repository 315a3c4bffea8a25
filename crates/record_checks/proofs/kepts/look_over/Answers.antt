use Rattle.std.proofs.Common.{◌≡◌, ℕ, ◌+◌, ◌∷◌, drop, take, sym, ap, ◌∙◌}
use Rattle.std.specs.Prelude.{max}
use Rattle.cloud_memory.specs.CloudAreas.Placing.{end_of}
use Rattle.cloud_memory.specs.Memory.{Memory}
use Rattle.cloud_memory.specs.Rooms.{memory_of}
use Rattle.cloud_memory.specs.Steps.{with_kepts}
use Rattle.record_checks.specs.Steps.{KeptFacts}
use Rattle.record_checks.proofs.Overlaying.{cut, kepts_more}
use Rattle.record_checks.proofs.KeptWalking.{goes_on, fails, fault_within}
use Rattle.record_checks.proofs.kepts.look_over.Goals as goal

pub returns-in-Some-kept_fault-clause-right : goal.returns-in-Some-kept_fault-clause-right
returns-in-Some-kept_fault-clause-right c =
    let old = memory_of c.args.memory.now in
    let m = with_kepts old (take c.loop-found.seen c.args.items.now.items) in
    let facts : KeptFacts m c.in-Some.found.item.fp c.is_placed-placed.result c.loop-found.end = record { laid = c.is_placed-placed.ensures; end_is = c.loop-found.invariant.1.1 } in
    fails c.args.ground.now c.args.inside old m c.args.items.now c.loop-found.walk c.next.new.self c.in-Some.found c.in-Some-kept_fault.place c.loop-found.invariant.0
    c.in-Some.ensures (c.in-Some-kept_fault.ensures.fault m facts)

pub returns-in-Some-kept_fault-clause-within : goal.returns-in-Some-kept_fault-clause-within
returns-in-Some-kept_fault-clause-within c =
    let old = memory_of c.args.memory.now in
    let m = with_kepts old (take c.loop-found.seen c.args.items.now.items) in
    let facts : KeptFacts m c.in-Some.found.item.fp c.is_placed-placed.result c.loop-found.end = record { laid = c.is_placed-placed.ensures; end_is = c.loop-found.invariant.1.1 } in
    fault_within c.args.ground.now c.args.inside old m c.args.items.now c.loop-found.walk c.next.new.self c.in-Some.found c.in-Some-kept_fault.place c.loop-found.invariant.0
    c.in-Some.ensures (c.in-Some-kept_fault.ensures.fault m facts)

pub loop-found-preserved : goal.loop-found-preserved
loop-found-preserved c =
    let old = memory_of c.args.memory.now in
    let all = c.args.items.now.items in
    let m = with_kepts old (take c.loop-found.seen all) in
    let item = c.in-Some.found.item in
    let facts : KeptFacts m item.fp c.is_placed-placed.result c.loop-found.end = record { laid = c.is_placed-placed.ensures; end_is = c.loop-found.invariant.1.1 } in
    let right = c.in-None.ensures.fault m facts in
    let at : drop c.loop-found.seen all ≡ item ∷ c.next.new.self.items = c.loop-found.invariant.1.0 ∙ c.in-Some.ensures.items in
    let more = kepts_more old all c.loop-found.seen item c.next.new.self.items at in (
      goes_on c.args.ground.now c.args.inside old m (with_kepts old (take (c.loop-found.seen + 1) all)) c.args.items.now c.loop-found.walk c.next.new.self c.in-Some.found c.loop-found.invariant.0
          c.in-Some.ensures right more,
      (
        (cut all c.loop-found.seen item c.next.new.self.items at).1,
        c.end_behind-end.ensures ∙ ap (λ (n : ℕ). max n (end_of item.place)) c.loop-found.invariant.1.1 ∙ ap (λ (x : Memory). x.shares_end) (sym more),
      ),
    )
