use Rattle.std.proofs.Common.{◌≡◌, ℕ, ◌≤◌, length, arith, List, refl, sym, ap, ◌∙◌, subst, inl}
use Rattle.fresh_checkpoints.specs.CdEdges.Disk.{IsImage, reads}
use Rattle.fresh_checkpoints.proofs.CdEdges.Calls.{called_twice}
use Rattle.fresh_checkpoints.proofs.CdEdges.Moments.{joined, weaker, at_end, told_on}
use Rattle.fresh_checkpoints.specs.CloudMemory.Rooms.{memory_of}
use Rattle.large_users.specs.MigrationModel.Migrating.{IsBetween}
use Rattle.cloud_opening.specs.Synced.{AreSynced}
use Rattle.store_migration.proofs.Answering.{read_as, moves_as, unread_as, refused_map, unread_refused, answered_of, unread_answered, over_no_memory, unread_no_memory, still_goes_on, begins, counted_behind, unread_counts}
use Rattle.cloud_opening.specs.CommitJournal.States as journals
use Rattle.store_migration.proofs.Leaving.{laid_left, unread_left}
use Rattle.store_migration.proofs.migrating.migrate_with.Goals as goal

pub read_old-requires : goal.read_old-requires
read_old-requires g c = record {
  cloud = c.requires.cloud;
  rooms = c.requires.kit.memory.rooms;
  users = c.requires.kit.memory.users;
  buffer = (let len = c.as_mut_slice.ensures.len in let room = c.requires.kit.recipe in omega (arith, len, room));
}

pub take_over-requires : goal.take_over-requires
take_over-requires g c = record {
  cloud = c.requires.cloud;
  rooms = c.requires.rooms;
  first = record { rooms = c.read_old.ensures.rooms; users = c.in-Ok.ensures.unspent };
  fit = c.in-Ok.ensures.fit;
  at_end = c.in-Ok.ensures.stage;
  limit = c.read_old.ensures.limit ∙ c.requires.kit.limit;
}

pub returns-in-Ok-clause-any_moment : goal.returns-in-Ok-clause-any_moment
returns-in-Ok-clause-any_moment g c list may =
    let number = c.args.cloud.0 in
    let c0 = g.V.Shelf.cloud_at c.args.shelf.now number in let c1 = g.V.Shelf.cloud_at c.read_old.new.shelf number in let c2 = g.V.Shelf.cloud_at c.take_over.new.shelf number in
    let P = IsBetween c.args.shape c.args.cloud c.args.rooms.now list in
    let run = c.read_old.ensures.any_moment may.told in
    joined c0 c1 c2 P (weaker c0 c1 (IsImage c0.now) P run (λ image left. inl (may.each image left).stands))
    (c.take_over.ensures.any_moment list (c.in-Ok.ensures.read list may) (λ image left. may.each image (at_end c0 c1 (IsImage c0.now) run image left)))

pub returns-in-Err-clause-any_moment : goal.returns-in-Err-clause-any_moment
returns-in-Err-clause-any_moment g c list may =
    let number = c.args.cloud.0 in
    let c0 = g.V.Shelf.cloud_at c.args.shelf.now number in let c1 = g.V.Shelf.cloud_at c.read_old.new.shelf number in
    let P = IsBetween c.args.shape c.args.cloud c.args.rooms.now list in
    weaker c0 c1 (IsImage c0.now) P (c.read_old.ensures.any_moment may.told) (λ image left. inl (may.each image left).stands)

pub returns-in-Ok-clause-migrated : goal.returns-in-Ok-clause-migrated
returns-in-Ok-clause-migrated g c list may = c.take_over.ensures.migrated list (c.in-Ok.ensures.read list may)

pub returns-in-Err-clause-migrated : goal.returns-in-Err-clause-migrated
returns-in-Err-clause-migrated g c list may =
    read_as c.args.shape c.args.cloud c.args.rooms.now list (g.V.Shelf.cloud_at c.read_old.new.shelf c.args.cloud.0) c.in-Err.error (c.in-Err.ensures.whole list may)

pub returns-in-Ok-clause-exact : goal.returns-in-Ok-clause-exact
returns-in-Ok-clause-exact g c told =
    moves_as c.args.shape c.args.cloud c.args.rooms.now (reads (g.V.Shelf.cloud_at c.args.shelf.now c.args.cloud.0).now) (memory_of c.read_old.new.memory) c.take_over.result
    (c.in-Ok.ensures.exact told) c.take_over.ensures.taken_over

pub returns-in-Err-clause-exact : goal.returns-in-Err-clause-exact
returns-in-Err-clause-exact g c told =
    unread_as c.args.shape c.args.cloud c.args.rooms.now (reads (g.V.Shelf.cloud_at c.args.shelf.now c.args.cloud.0).now) (memory_of c.read_old.new.memory) c.in-Err.error
    (c.in-Err.ensures.exact told)

pub returns-in-Ok-clause-spared : goal.returns-in-Ok-clause-spared
returns-in-Ok-clause-spared g c told =
    let number = c.args.cloud.0 in let c0 = g.V.Shelf.cloud_at c.args.shelf.now number in
    refused_map c.take_over.result _ _ (λ same. subst (AreSynced c0) (sym (ap (λ s. g.V.Shelf.cloud_at s number) same)) (c.in-Ok.ensures.synced told)) c.take_over.ensures.spared

pub returns-in-Err-clause-spared : goal.returns-in-Err-clause-spared
returns-in-Err-clause-spared g c told = unread_refused c.in-Err.error _ (c.in-Err.ensures.synced told)

pub returns-in-Ok-clause-synced_first : goal.returns-in-Ok-clause-synced_first
returns-in-Ok-clause-synced_first g c told =
    let number = c.args.cloud.0 in
    let c0 = g.V.Shelf.cloud_at c.args.shelf.now number in let c1 = g.V.Shelf.cloud_at c.read_old.new.shelf number in let c2 = g.V.Shelf.cloud_at c.take_over.new.shelf number in
    let told1 = told_on c0 c1 c.read_old.ensures.call.told told in
    let ended = c.in-Ok.ensures.ended told in
    answered_of c.take_over.result _ (begins c0 c1 c2 (c.in-Ok.ensures.synced told) (c.take_over.ensures.goes_on told1 ended.0 ended.1))

pub returns-in-Err-clause-synced_first : goal.returns-in-Err-clause-synced_first
returns-in-Err-clause-synced_first g c told =
    let number = c.args.cloud.0 in
    let c0 = g.V.Shelf.cloud_at c.args.shelf.now number in let c1 = g.V.Shelf.cloud_at c.read_old.new.shelf number in
    unread_answered c.in-Err.error _ _ (λ synced. begins c0 c1 c1 synced (still_goes_on c1)) (c.in-Err.ensures.synced told)

pub returns-in-Ok-clause-memory : goal.returns-in-Ok-clause-memory
returns-in-Ok-clause-memory g c = over_no_memory c.args.rooms.now (memory_of c.read_old.new.memory) c.take_over.result c.take_over.ensures.taken_over

pub returns-in-Err-clause-memory : goal.returns-in-Err-clause-memory
returns-in-Err-clause-memory g c = unread_no_memory c.in-Err.error c.in-Err.ensures.memory

pub returns-in-Ok-clause-call : goal.returns-in-Ok-clause-call
returns-in-Ok-clause-call g c = called_twice _ _ _ _ _ _ _ c.read_old.ensures.call c.take_over.ensures.call

pub returns-in-Ok-clause-counts : goal.returns-in-Ok-clause-counts
returns-in-Ok-clause-counts g c =
    counted_behind c.take_over.result (g.V.Shelf.cloud_at c.args.shelf.now) (g.V.Shelf.cloud_at c.read_old.new.shelf) (g.V.Shelf.cloud_at c.take_over.new.shelf) c.args.cloud.0
    (g.V.Shelf.faults c.args.shelf.now) (g.V.Shelf.faults c.read_old.new.shelf) (g.V.Shelf.faults c.take_over.new.shelf)
    c.read_old.ensures.call c.in-Ok.ensures.counts c.take_over.ensures.counts

pub returns-in-Err-clause-counts : goal.returns-in-Err-clause-counts
returns-in-Err-clause-counts g c = unread_counts c.in-Err.error _ _ c.in-Err.ensures.counts

pub returns-in-Ok-clause-left : goal.returns-in-Ok-clause-left
returns-in-Ok-clause-left g c told =
    let number = c.args.cloud.0 in
    let c0 = g.V.Shelf.cloud_at c.args.shelf.now number in let c1 = g.V.Shelf.cloud_at c.read_old.new.shelf number in let c2 = g.V.Shelf.cloud_at c.take_over.new.shelf number in
    let told1 = told_on c0 c1 c.read_old.ensures.call.told told in
    let ended = c.in-Ok.ensures.ended told in
    laid_left c.args.shape c.args.cloud c.args.rooms.now c.read_old.new.memory (journals.state_of c.read_old.new.journal) ended.0 c0 c1 c2
    (c.read_old.ensures.any_moment told) (c.in-Ok.ensures.synced told) (c.in-Ok.ensures.exact told) ended.1 c.take_over.result
    (refused_map c.take_over.result _ _ (λ same. ap (λ s. g.V.Shelf.cloud_at s number) same) c.take_over.ensures.spared)
    (over_no_memory c.args.rooms.now (memory_of c.read_old.new.memory) c.take_over.result c.take_over.ensures.taken_over)
    (c.take_over.ensures.laid told1 ended.0 ended.1)

pub returns-in-Err-clause-left : goal.returns-in-Err-clause-left
returns-in-Err-clause-left g c told =
    let number = c.args.cloud.0 in
    unread_left c.args.shape c.args.cloud c.args.rooms.now (g.V.Shelf.cloud_at c.args.shelf.now number) (g.V.Shelf.cloud_at c.read_old.new.shelf number) c.in-Err.error
    (c.read_old.ensures.any_moment told)
