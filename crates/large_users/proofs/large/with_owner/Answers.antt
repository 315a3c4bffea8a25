use Rattle.compact_memories.specs.PoolMap.Slots.{slot_of}
use Rattle.std.proofs.Common.{◌≡◌, rules, length, sym, refl}
use Rattle.compact_memories.specs.ShareIndex.key.Owner.{Owner}
use Rattle.compact_memories.specs.ShareIndex.Order.{owner_of}
use Rattle.compact_memories.proofs.Passing.{owner_in, no_owner}
use Rattle.large_users.specs.Large.{IsOwnerSized}
use Rattle.large_users.proofs.Counts.{each_more, each_key, each_none, seen_more, seen_key, seen_none, found_more}
use Rattle.large_users.proofs.large.with_owner.Goals as goal

pub returns-in-Some-clause-seen : goal.returns-in-Some-clause-seen
returns-in-Some-clause-seen c =
    let slots = c.args.shares.now.owner_slots in
    let key = owner_of c.in-Some.user.0 c.in-Some.field-0-1.0 in
    let own = owner_in (slot_of slots c.args.slot) key (sym c.in-Some.ensures.owner) in
    seen_more (λ (k : Owner). k.user) c.args.from slots c.args.slot c.args.least c.lesser.result c.requires.seen c.lesser.ensures.still
    (seen_key (λ (k : Owner). k.user) c.args.from slots c.lesser.result key own.0 (slot_of slots c.args.slot) own.1 c.lesser.ensures.seen)

pub returns-in-Some-clause-found : goal.returns-in-Some-clause-found
returns-in-Some-clause-found c =
    let slots = c.args.shares.now.owner_slots in
    let key = owner_of c.in-Some.user.0 c.in-Some.field-0-1.0 in
    let own = owner_in (slot_of slots c.args.slot) key (sym c.in-Some.ensures.owner) in
    found_more (λ (k : Owner). k.user) c.args.from slots c.args.slot c.args.least c.lesser.result key own.0 c.in-Some.user.0 own.1 refl c.requires.found c.lesser.ensures.which

pub returns-in-None-clause-seen : goal.returns-in-None-clause-seen
returns-in-None-clause-seen c =
    let slots = c.args.shares.now.owner_slots in
    seen_more (λ (k : Owner). k.user) c.args.from slots c.args.slot c.args.least c.args.least c.requires.seen (λ other seen. seen)
    (seen_none (λ (k : Owner). k.user) c.args.from slots c.args.least (slot_of slots c.args.slot) (no_owner (slot_of slots c.args.slot) (sym c.in-None.ensures.owner)))

pub returns-in-Some-clause-sized : goal.returns-in-Some-clause-sized
returns-in-Some-clause-sized c =
    let slots = c.args.shares.now.owner_slots in
    let key = owner_of c.in-Some.user.0 c.in-Some.field-0-1.0 in
    let own = owner_in (slot_of slots c.args.slot) key (sym c.in-Some.ensures.owner) in
    let long : length c.in-Some.field-0-1.0 ≡ 32 = search rules in
    each_more IsOwnerSized slots c.args.slot c.requires.sized (each_key IsOwnerSized slots key own.0 (slot_of slots c.args.slot) own.1 long)

pub returns-in-None-clause-sized : goal.returns-in-None-clause-sized
returns-in-None-clause-sized c =
    let slots = c.args.shares.now.owner_slots in
    each_more IsOwnerSized slots c.args.slot c.requires.sized
    (each_none IsOwnerSized slots (slot_of slots c.args.slot) (no_owner (slot_of slots c.args.slot) (sym c.in-None.ensures.owner)))
