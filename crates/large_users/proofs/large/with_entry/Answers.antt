use Rattle.compact_memories.specs.PoolMap.Slots.{slot_of}
use Rattle.std.proofs.Common.{◌≡◌, rules, length, sym, refl}
use Rattle.compact_memories.specs.FileIndex.key.FileKey.{FileKey}
use Rattle.compact_memories.specs.FileIndex.Files.{key_of}
use Rattle.large_users.specs.Large.{IsEntrySized}
use Rattle.large_users.proofs.Counts.{each_more, each_key, each_none, seen_more, seen_key, seen_none, found_more}
use Rattle.large_users.proofs.large.with_entry.Goals as goal

pub returns-in-Some-clause-seen : goal.returns-in-Some-clause-seen
returns-in-Some-clause-seen c =
    let slots = c.args.files.now.slots in
    let key = key_of c.in-Some.user.0 c.in-Some.field-0-1.0 c.in-Some.field-0-2.0 in
    seen_more (λ (k : FileKey). k.user) c.args.from slots c.args.slot c.args.least c.lesser.result c.requires.seen c.lesser.ensures.still
    (seen_key (λ (k : FileKey). k.user) c.args.from slots c.lesser.result key c.in-Some.field-0-3 (slot_of slots c.args.slot) (sym c.in-Some.ensures.entry) c.lesser.ensures.seen)

pub returns-in-Some-clause-found : goal.returns-in-Some-clause-found
returns-in-Some-clause-found c =
    let slots = c.args.files.now.slots in
    let key = key_of c.in-Some.user.0 c.in-Some.field-0-1.0 c.in-Some.field-0-2.0 in
    found_more (λ (k : FileKey). k.user) c.args.from slots c.args.slot c.args.least c.lesser.result key c.in-Some.field-0-3 c.in-Some.user.0 (sym c.in-Some.ensures.entry) refl
    c.requires.found c.lesser.ensures.which

pub returns-in-None-clause-seen : goal.returns-in-None-clause-seen
returns-in-None-clause-seen c =
    let slots = c.args.files.now.slots in
    seen_more (λ (k : FileKey). k.user) c.args.from slots c.args.slot c.args.least c.args.least c.requires.seen (λ other seen. seen)
    (seen_none (λ (k : FileKey). k.user) c.args.from slots c.args.least (slot_of slots c.args.slot) (sym c.in-None.ensures.entry))

pub returns-in-Some-clause-sized : goal.returns-in-Some-clause-sized
returns-in-Some-clause-sized c =
    let slots = c.args.files.now.slots in
    let key = key_of c.in-Some.user.0 c.in-Some.field-0-1.0 c.in-Some.field-0-2.0 in
    let tag : length c.in-Some.field-0-1.0 ≡ 32 = search rules in
    let fp : length c.in-Some.field-0-3.fp.0 ≡ 32 = search rules in
    each_more IsEntrySized slots c.args.slot c.requires.sized
    (each_key IsEntrySized slots key c.in-Some.field-0-3 (slot_of slots c.args.slot) (sym c.in-Some.ensures.entry) (tag, fp))

pub returns-in-None-clause-sized : goal.returns-in-None-clause-sized
returns-in-None-clause-sized c =
    let slots = c.args.files.now.slots in
    each_more IsEntrySized slots c.args.slot c.requires.sized (each_none IsEntrySized slots (slot_of slots c.args.slot) (sym c.in-None.ensures.entry))
