use Rattle.std.proofs.Common.{ℕ, ◌∙◌}
use Rattle.fresh_checkpoints.specs.CdEdges.Disk.{IsImage}
use Rattle.fresh_checkpoints.proofs.CdEdges.Calls.{called_twice}
use Rattle.fresh_checkpoints.proofs.CdEdges.Moments.{told_on}
use Rattle.cloud_opening.specs.CommitJournal.States.{state_of}
use Rattle.fresh_checkpoints.specs.CloudMemory.Rooms.{memory_of}
use Rattle.cloud_opening.proofs.Opened.{then_stays}
use Rattle.cloud_opening.proofs.Synced.{none_behind, on_ok}
use Rattle.store_migration.proofs.Cases.{of_all, on_answer, counted_behind, same_err, same_memory}
use Rattle.store_migration.proofs.Loaded.{read_before, read_whole, read_all_still, unopened_before}
use Rattle.store_migration.proofs.reading.read_journal.Goals as goal

pub returns-in-Ok-clause-any_moment : goal.returns-in-Ok-clause-any_moment
returns-in-Ok-clause-any_moment g c told =
    let number = c.args.cloud.0 in let c0 = g.V.Shelf.cloud_at c.args.shelf.now number in let c1 = g.V.Shelf.cloud_at c.open_old.new.shelf number in let c2 = g.V.Shelf.cloud_at c.read_opened.new.shelf number in
    then_stays c0 c1 c2 (IsImage c0.now) (c.open_old.ensures.any_moment told) c.read_opened.ensures.stays

pub returns-in-Ok-clause-synced : goal.returns-in-Ok-clause-synced
returns-in-Ok-clause-synced g c told =
    let number = c.args.cloud.0 in let c0 = g.V.Shelf.cloud_at c.args.shelf.now number in let c1 = g.V.Shelf.cloud_at c.open_old.new.shelf number in let c2 = g.V.Shelf.cloud_at c.read_opened.new.shelf number in
    of_all c.read_opened.result _ (none_behind c0 c1 c2 (c.in-Ok.ensures.synced told) c.read_opened.ensures.stays)

pub returns-in-Ok-clause-exact : goal.returns-in-Ok-clause-exact
returns-in-Ok-clause-exact g c told =
    let number = c.args.cloud.0 in let c0 = g.V.Shelf.cloud_at c.args.shelf.now number in let c1 = g.V.Shelf.cloud_at c.open_old.new.shelf number in
    let told1 = told_on c0 c1 c.open_old.ensures.call.told told in let new = memory_of c.read_opened.new.memory in
    on_answer c.read_opened.result _ _ (read_before c.args.shape c.args.cloud c0 c1 (c.in-Ok.ensures.synced told) new c.read_opened.result) (c.read_opened.ensures.exact told1 (c.in-Ok.ensures.opened told))

pub returns-in-Ok-clause-read : goal.returns-in-Ok-clause-read
returns-in-Ok-clause-read g c told =
    let number = c.args.cloud.0 in let c0 = g.V.Shelf.cloud_at c.args.shelf.now number in let c1 = g.V.Shelf.cloud_at c.open_old.new.shelf number in let c2 = g.V.Shelf.cloud_at c.read_opened.new.shelf number in
    let told1 = told_on c0 c1 c.open_old.ensures.call.told told in let new = memory_of c.read_opened.new.memory in let after = state_of c.read_opened.new.journal in
    let stays = c.read_opened.ensures.stays in
    on_ok c.read_opened.result _ _ (λ all. read_whole c.args.shape c.args.cloud c0 c2 (none_behind c0 c1 c2 (c.in-Ok.ensures.synced told) stays) after new (read_all_still c.args.shape c.args.cloud after new c1 c2 stays all))
    (c.read_opened.ensures.read told1 (c.in-Ok.ensures.opened told))

pub returns-in-Ok-clause-call : goal.returns-in-Ok-clause-call
returns-in-Ok-clause-call g c = called_twice _ _ _ _ _ _ _ c.open_old.ensures.call c.read_opened.ensures.call

pub returns-in-Ok-clause-counts : goal.returns-in-Ok-clause-counts
returns-in-Ok-clause-counts g c =
    counted_behind c.read_opened.result (g.V.Shelf.cloud_at c.args.shelf.now) (g.V.Shelf.cloud_at c.open_old.new.shelf) (g.V.Shelf.cloud_at c.read_opened.new.shelf) c.args.cloud.0 (g.V.Shelf.faults c.args.shelf.now) (g.V.Shelf.faults c.open_old.new.shelf) (g.V.Shelf.faults c.read_opened.new.shelf)
    c.open_old.ensures.call c.in-Ok.ensures.counts c.read_opened.ensures.counts

pub returns-in-Ok-clause-limit : goal.returns-in-Ok-clause-limit
returns-in-Ok-clause-limit g c = c.read_opened.ensures.limit ∙ c.open_old.ensures.limit

pub returns-in-Err-clause-synced : goal.returns-in-Err-clause-synced
returns-in-Err-clause-synced g c told = same_err ℕ (Unit {0}) c.in-Err.error _ _ (c.in-Err.ensures.synced told)

pub returns-in-Err-clause-counts : goal.returns-in-Err-clause-counts
returns-in-Err-clause-counts g c = same_err ℕ (Unit {0}) c.in-Err.error _ _ c.in-Err.ensures.counts

pub returns-in-Err-clause-memory : goal.returns-in-Err-clause-memory
returns-in-Err-clause-memory g c = same_memory ℕ (Unit {0}) c.in-Err.error c.in-Err.ensures.memory

pub returns-in-Err-clause-exact : goal.returns-in-Err-clause-exact
returns-in-Err-clause-exact g c told =
    let number = c.args.cloud.0 in let c0 = g.V.Shelf.cloud_at c.args.shelf.now number in let c1 = g.V.Shelf.cloud_at c.open_old.new.shelf number in
    unopened_before c.args.shape c.args.cloud c0 c1 (state_of c.open_old.new.journal) (memory_of c.args.memory.now) c.in-Err.error (c.in-Err.ensures.synced told) (c.in-Err.ensures.opened told)

pub returns-in-Ok-clause-ended : goal.returns-in-Ok-clause-ended
returns-in-Ok-clause-ended g c told =
    let number = c.args.cloud.0 in let c0 = g.V.Shelf.cloud_at c.args.shelf.now number in let c1 = g.V.Shelf.cloud_at c.open_old.new.shelf number in let c2 = g.V.Shelf.cloud_at c.read_opened.new.shelf number in
    let told1 = told_on c0 c1 c.open_old.ensures.call.told told in let new = memory_of c.read_opened.new.memory in let after = state_of c.read_opened.new.journal in
    on_ok c.read_opened.result _ _ (λ all. let r = read_all_still c.args.shape c.args.cloud after new c1 c2 c.read_opened.ensures.stays all in (r.w, r.ended))
    (c.read_opened.ensures.read told1 (c.in-Ok.ensures.opened told))
