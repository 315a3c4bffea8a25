use Rattle.std.proofs.Common.{◌≤◌, ℕ, length, sym, ap, ◌∙◌, subst, arith}
use Rattle.fresh_checkpoints.specs.CloudMemory.cloud.CloudMemory.{CloudMemory}
use Rattle.fresh_checkpoints.specs.CloudMemory.Rooms.{memory_of}
use Rattle.fresh_checkpoints.specs.Checkpoints.Laying.{KeepsOrSettles, HasSettled}
use Rattle.fresh_checkpoints.specs.Checkpoints.Records.{records_of}
use Rattle.fresh_checkpoints.specs.CompactMemories.Moved.{IsMoved, other_region}
use Rattle.fresh_checkpoints.specs.CompactMemories.Kept.{commands_in}
use Rattle.compact_lists.specs.UserDedup.Compact.{compact}
use Rattle.cloud_store.specs.CloudOpening.Roomy.{IsRoomy}
use Rattle.record_laws.specs.ContainerLog.States as logs
use Rattle.blob_copy.specs.Switched.{OnLong}
use Rattle.blob_copy.proofs.Near.{shares_near, recipes_near}
use Rattle.blob_copy.proofs.Serving.{shares_meet, recipes_meet, roomy_kept, served_on}
use Rattle.blob_copy.proofs.Settled.{ok_any, ok_map, long_map, never}
use Rattle.blob_copy.proofs.Switched.{next_kept}
use Rattle.blob_copy.proofs.switching.switch.Goals as goal

pub make_moved-requires : goal.make_moved-requires
make_moved-requires g c =
    let store = c.args.store.now in let settled = c.requires.settled in
    let small : other_region store.region ≤ 1 = omega arith in
    let fit = settled.fit c.requires.«open» in
    record {
      users = (let users = settled.rooms.users in let few = settled.header.rooms.few in omega (arith, users, few));
      region = small;
      shares =
          shares_near (other_region store.region) small store.memory c.slots_list.ensures fit
          (let slots = settled.rooms.slots in let few = settled.header.rooms.owners in omega (arith, slots, few));
      recipes =
          recipes_near (other_region store.region) small store.memory c.slots_list.ensures fit
          (let slots = settled.rooms.entries in let few = settled.header.rooms.files in omega (arith, slots, few));
    }

pub settle-requires : goal.settle-requires
settle-requires g c =
    let store = c.args.store.now in let settled = c.requires.settled in
    record {
      header = settled.header;
      format = settled.format;
      at_end = c.requires.«open»;
      rooms = c.make_moved.ensures.rooms store.header.rooms settled.rooms;
      fit = c.law_of_moved_fits.ensures (other_region store.region) store.memory (memory_of c.make_moved.new.memory) c.slots_list.ensures (settled.fit c.requires.«open») c.make_moved.ensures.moved;
      disk = settled.disk;
      shares_limit = settled.shares_limit;
      recipes_limit = settled.recipes_limit;
      region = settled.region;
      other_is = omega arith;
    }

pub returns-clause-any_moment : goal.returns-clause-any_moment
returns-clause-any_moment g c list chain is =
    let store = c.args.store.now in let cloud = g.V.Shelf.cloud_at c.args.shelf.now store.header.cloud.0 in
    let number = c.commands_of_compact-commands.ensures.meaning store.header.shape store.header.cloud.0 list is.knows.read.sound is.knows.remembers in
    let next = next_kept list chain store c.args.copying.now cloud is c.requires.all (c.requires.settled.fit c.requires.«open») c.slots_list.ensures
    c.make_moved.new.memory c.make_moved.ensures.moved c.slots_list-2.ensures c.commands_of_compact-commands.result number c.commands_of_compact-commands.type_inv c.requires.settled.format in
    c.settle.ensures.any_moment list (compact store.header.shape list) chain is.knows.read next

pub returns-clause-switched : goal.returns-clause-switched
returns-clause-switched g c list chain is =
    let store = c.args.store.now in let cloud = g.V.Shelf.cloud_at c.args.shelf.now store.header.cloud.0 in
    let number = c.commands_of_compact-commands.ensures.meaning store.header.shape store.header.cloud.0 list is.knows.read.sound is.knows.remembers in
    let fit = c.requires.settled.fit c.requires.«open» in
    let next = next_kept list chain store c.args.copying.now cloud is c.requires.all fit c.slots_list.ensures
    c.make_moved.new.memory c.make_moved.ensures.moved c.slots_list-2.ensures c.commands_of_compact-commands.result number c.commands_of_compact-commands.type_inv c.requires.settled.format in
    served_on list chain store c.args.copying.now cloud is c.requires.all fit c.slots_list.ensures c.make_moved.new.memory c.make_moved.ensures.moved c.slots_list-2.ensures
    c.commands_of_compact-commands.result next c.settle.result c.settle.new.store (g.V.Shelf.cloud_at c.settle.new.shelf store.header.cloud.0)
    (c.settle.ensures.read list (compact store.header.shape list) chain is.knows.read next) c.settle.ensures.next (c.settle.ensures.others is.knows.read.told)
    c.settle.ensures.header c.settle.ensures.memory c.settle.ensures.logs.0 c.settle.ensures.logs.1

pub returns-clause-never_wrong : goal.returns-clause-never_wrong
returns-clause-never_wrong g c list chain is =
    let store = c.args.store.now in let cloud = g.V.Shelf.cloud_at c.args.shelf.now store.header.cloud.0 in
    let fit = c.requires.settled.fit c.requires.«open» in
    let roomy = roomy_kept list chain store c.args.copying.now cloud is c.requires.all fit c.slots_list.ensures c.make_moved.new.memory c.make_moved.ensures.moved c.slots_list-2.ensures
    (c.make_moved.ensures.rooms store.header.rooms c.requires.settled.rooms).users in
    never c.settle.result (long_map c.settle.result _ ⊥ (λ no. no roomy) c.settle.ensures.long) c.settle.ensures.never_rotten

pub returns-clause-moved : goal.returns-clause-moved
returns-clause-moved g c =
    let store = c.args.store.now in
    subst (λ (m : CloudMemory). IsMoved (other_region store.region) store.memory (memory_of m)) (sym c.settle.ensures.memory) c.make_moved.ensures.moved

pub returns-clause-meet : goal.returns-clause-meet
returns-clause-meet g c =
    let store = c.args.store.now in
    ok_any c.settle.result _ (record {
      shares =
          ap (λ (l : logs.State). l.end) c.settle.ensures.logs.0
          ∙ shares_meet store c.args.copying.now c.requires.laid c.requires.all c.make_moved.new.memory c.make_moved.ensures.moved
          ∙ sym (ap (λ (m : CloudMemory). m.shares_end) c.settle.ensures.memory);
      recipes =
          ap (λ (l : logs.State). l.end) c.settle.ensures.logs.1
          ∙ recipes_meet store c.args.copying.now c.requires.laid c.requires.all c.make_moved.new.memory c.make_moved.ensures.moved
          ∙ sym (ap (λ (m : CloudMemory). m.recipes_end) c.settle.ensures.memory);
    })

pub returns-clause-region : goal.returns-clause-region
returns-clause-region g c = ok_map c.settle.result _ _ (λ both. both.1) c.settle.ensures.next

pub returns-clause-number : goal.returns-clause-number
returns-clause-number g c = ok_map c.settle.result _ _ (λ both. both.0 ∙ c.commands_of_compact-commands.ensures.number) c.settle.ensures.next

pub returns-clause-long : goal.returns-clause-long
returns-clause-long g c =
    let store = c.args.store.now in
    subst (λ (m : CloudMemory). OnLong c.settle.result (¬ IsRoomy store.header.rooms (other_region store.region) (memory_of m))) (sym c.settle.ensures.memory) c.settle.ensures.long

pub returns-clause-chain : goal.returns-clause-chain
returns-clause-chain g c =
    let store = c.args.store.now in let other = other_region store.region in
    let c0 = g.V.Shelf.cloud_at c.args.shelf.now store.header.cloud.0 in let c1 = g.V.Shelf.cloud_at c.settle.new.shelf store.header.cloud.0 in
    subst (λ (m : CloudMemory). KeepsOrSettles store.disk.journal store.header (commands_in (memory_of store.memory)) (length (records_of m)) other (records_of m) c0 c1)
    (sym c.settle.ensures.memory)
    (subst (λ (n : ℕ). KeepsOrSettles store.disk.journal store.header n (length (records_of c.make_moved.new.memory)) other (records_of c.make_moved.new.memory) c0 c1)
    c.commands_of_compact-commands.ensures.number c.settle.ensures.chain)

pub returns-clause-taken : goal.returns-clause-taken
returns-clause-taken g c =
    let store = c.args.store.now in let other = other_region store.region in
    let after = c.settle.new.store.disk.journal in
    let c0 = g.V.Shelf.cloud_at c.args.shelf.now store.header.cloud.0 in let c1 = g.V.Shelf.cloud_at c.settle.new.shelf store.header.cloud.0 in
    subst (λ (m : CloudMemory). HasSettled store.disk.journal after store.header (commands_in (memory_of store.memory)) (length (records_of m)) other (records_of m) c0 c1 c.settle.result)
    (sym c.settle.ensures.memory)
    (subst (λ (n : ℕ). HasSettled store.disk.journal after store.header n (length (records_of c.make_moved.new.memory)) other (records_of c.make_moved.new.memory) c0 c1 c.settle.result)
    c.commands_of_compact-commands.ensures.number c.settle.ensures.taken)
