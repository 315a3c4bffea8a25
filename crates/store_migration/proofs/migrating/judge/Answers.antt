use Rattle.std.proofs.Common.{◌≡◌, ◌≤◌, length, Err, refl, sym, subst, arith}
use Rattle.fresh_checkpoints.specs.CloudMemory.Rooms.{memory_of}
use Rattle.store_migration.specs.declared.errors.MigrateErr.{MigrateErr}
use Rattle.store_migration.specs.Judging.{MemoryJudgedAs, JudgedBy}
use Rattle.store_migration.proofs.Answering.{is_counted}
use Rattle.store_migration.proofs.NextKept.{next_kept}
use Rattle.store_migration.proofs.migrating.judge.Goals as goal

pub returns-in-Some-clause-judged : goal.returns-in-Some-clause-judged
returns-in-Some-clause-judged c =
    let old = c.args.memory.now in let new = c.take_out-commands.new.memory in
    let counted = is_counted old new c.take_out-commands.ensures.compacted c.requires.first.users in
    subst (λ (e : MigrateErr). MemoryJudgedAs c.args.rooms.now (memory_of old) (Err e)) (sym c.refusal.ensures) (c.in-Some.ensures.first (memory_of old) 256 counted c.requires.rooms.few)

pub returns-in-Some-clause-by_list : goal.returns-in-Some-clause-by_list
returns-in-Some-clause-by_list c shape cloud list table sound r =
    let old = c.args.memory.now in let new = c.take_out-commands.new.memory in
    let counted = is_counted old new c.take_out-commands.ensures.compacted c.requires.first.users in
    subst (λ (e : MigrateErr). JudgedBy shape c.args.rooms.now list (Err e)) (sym c.refusal.ensures)
    (c.in-Some.ensures.by_list (memory_of old) 256 shape cloud list table counted c.requires.rooms.few sound r)

pub returns-in-None-clause-judged : goal.returns-in-None-clause-judged
returns-in-None-clause-judged c =
    let old = c.args.memory.now in let new = c.take_out-commands.new.memory in
    let counted = is_counted old new c.take_out-commands.ensures.compacted c.requires.first.users in
    (c.in-None.ensures.first (memory_of old) 256 counted c.requires.rooms.few, c.take_out-commands.ensures.number)

pub returns-in-None-clause-by_list : goal.returns-in-None-clause-by_list
returns-in-None-clause-by_list c shape cloud list table sound r =
    let old = c.args.memory.now in let new = c.take_out-commands.new.memory in
    let counted = is_counted old new c.take_out-commands.ensures.compacted c.requires.first.users in
    c.in-None.ensures.by_list (memory_of old) 256 shape cloud list table counted c.requires.rooms.few sound r

pub returns-in-None-clause-next : goal.returns-in-None-clause-next
returns-in-None-clause-next c shape cloud list journal at is =
    let old = c.args.memory.now in let new = c.take_out-commands.new.memory in let compacted = c.take_out-commands.ensures.compacted in
    let counted = is_counted old new compacted c.requires.first.users in
    let small = c.in-None.ensures.by_list (memory_of old) 256 shape cloud.0 list is.table counted c.requires.rooms.few is.read.sound is.remembers in
    let sized = c.in-None.ensures.sized refl in
    next_kept shape cloud c.args.rooms.now list journal at old new is c.take_out-commands.ensures.listed compacted sized.listed small
    c.take_out-commands.result c.take_out-commands.ensures.number c.take_out-commands.type_inv
    (let users = c.requires.first.users in let few = c.requires.rooms.few in omega (arith, users, few))

pub returns-in-None-clause-short : goal.returns-in-None-clause-short
returns-in-None-clause-short c =
    let old = c.args.memory.now in let new = c.take_out-commands.new.memory in let compacted = c.take_out-commands.ensures.compacted in
    let counted = is_counted old new compacted c.requires.first.users in
    c.law_of_compacted_room.ensures c.args.rooms.now old new compacted (c.in-None.ensures.first (memory_of old) 256 counted c.requires.rooms.few) (c.in-None.ensures.sized refl)
