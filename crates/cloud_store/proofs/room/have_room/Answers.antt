use Rattle.std.proofs.Common.{◌+◌, ◌<◌, ◌≤◌, Err, sym, subst, arith}
use Rattle.checkpoints.specs.Laying.{records_len}
use Rattle.checkpoints.specs.Records.{records_of}
use Rattle.checkpoints.specs.declared.whole.Unsettled.{Unsettled}
use Rattle.checkpoints.specs.Known.{IfLong}
use Rattle.checkpoints.specs.CloudMemory.Rooms.{memory_of}
use Rattle.checkpoints.specs.CloudDisk.Disk.{regions_end}
use Rattle.cloud_opening.proofs.Spends.{ends_far}
use Rattle.cloud_store.specs.declared.store.CloudStore.{CloudStore}
use Rattle.cloud_store.proofs.room.have_room.Goals as goal

pub returns-in-Err-Long-clause-never_long : goal.returns-in-Err-Long-clause-never_long
returns-in-Err-Long-clause-never_long g c small =
    subst (λ (why : Unsettled). IfLong {A = Unit {0}} (Err why) ⊥) c.in-Err-Long.field-0-is (c.in-Err-Long.ensures.never_long small)

pub returns-in-Err-Long-clause-long : goal.returns-in-Err-Long-clause-long
returns-in-Err-Long-clause-long g c =
    subst (λ (why : Unsettled). IfLong {A = Unit {0}} (Err why) (c.args.store.now.disk.journal.limit < 63 + records_len (records_of c.args.store.now.memory) + (c.args.len + 5))) c.in-Err-Long.field-0-is c.in-Err-Long.ensures.long

pub returns-in-Ok-clause-ends : goal.returns-in-Ok-clause-ends
returns-in-Ok-clause-ends g c =
    let store = c.args.store.now in let settled = c.requires.settled in
    let far = ends_far store.header.rooms store.region (memory_of store.memory) settled.header.rooms settled.rooms.users settled.region (settled.roomy c.requires.open) in
    let shares = far.0 in let recipes = far.1 in
    subst (λ (x : CloudStore). (x.memory.shares_end ≤ regions_end) × (x.memory.recipes_end ≤ regions_end)) (sym c.make_room.ensures.same.same)
    (omega (arith, shares), omega (arith, recipes))
