use Rattle.std.proofs.Common.{◌≡◌, Some, None, sym, subst}
use Rattle.checkpoints.specs.PoolMap.Slots.{slot_of, IsListed}
use Rattle.checkpoints.specs.ShareIndex.Shares.{Shares}
use Rattle.compact_memories.specs.Passes.{dead_in}
use Rattle.compact_memories.proofs.Emptying.{slot_kept, has_place, slot_emptied}
use Rattle.compact_memories.proofs.dropping.drop_slot.Goals as goal

pub drop_share-requires : goal.drop_share-requires
drop_share-requires c =
    let memory = c.args.memory.now in
    let dead = subst (λ (s : Shares). dead_in s.owners (slot_of s.place_slots c.args.slot) ≡ Some c.in-Some.fp.0) c.shares.ensures (sym c.in-Some.ensures.dead) in
    let listed = subst (λ (s : Shares). IsListed s.places s.place_slots) c.shares.ensures c.in-Some.ensures.each in
    record { placed = has_place memory c.args.slot c.in-Some.fp.0 dead listed }

pub returns-in-Some-clause-so_far : goal.returns-in-Some-clause-so_far
returns-in-Some-clause-so_far c first d =
    let memory = c.args.memory.now in
    let dead = subst (λ (s : Shares). dead_in s.owners (slot_of s.place_slots c.args.slot) ≡ Some c.in-Some.fp.0) c.shares.ensures (sym c.in-Some.ensures.dead) in
    let listed = subst (λ (s : Shares). IsListed s.places s.place_slots) c.shares.ensures c.in-Some.ensures.each in
    slot_emptied first memory c.args.slot d c.drop_share.new.self c.in-Some.fp dead listed c.drop_share.ensures.taken c.drop_share.ensures.emptied

pub returns-in-None-clause-so_far : goal.returns-in-None-clause-so_far
returns-in-None-clause-so_far c first d =
    let memory = c.args.memory.now in
    let none = subst (λ (s : Shares). dead_in s.owners (slot_of s.place_slots c.args.slot) ≡ None) c.shares.ensures (sym c.in-None.ensures.dead) in
    slot_kept first memory c.args.slot d none
