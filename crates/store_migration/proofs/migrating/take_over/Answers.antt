use Rattle.std.proofs.Common.{◌≡◌, ◌≤◌, ℕ, ◌+◌, List, Err, refl, sym, ap, ◌∙◌, subst, arith, inl}
use Rattle.fresh_checkpoints.specs.CdEdges.Disk.{Image, Cloud, IsImage, LeavesOnly}
use Rattle.fresh_checkpoints.proofs.CdEdges.Moments.{started}
use Rattle.cloud_opening.specs.CommitJournal.States as journals
use Rattle.fresh_checkpoints.specs.JournalHalves.Halves.{half_limit}
use Rattle.cloud_opening.specs.JournalStart.start.Header.{Header}
use Rattle.fresh_checkpoints.specs.CloudAreas.Standing.{StandsFor}
use Rattle.fresh_checkpoints.specs.CloudMemory.Rooms.{memory_of}
use Rattle.fresh_checkpoints.specs.Checkpoints.Laying.{records_len}
use Rattle.fresh_checkpoints.specs.Checkpoints.Records.{records_of}
use Rattle.cloud_opening.specs.UserDedup.Compact.{compact}
use Rattle.fresh_checkpoints.specs.Fresh.{IsNextMemory}
use Rattle.fresh_checkpoints.specs.Switching.{IsMigrating}
use Rattle.large_users.specs.MigrationModel.Migrating.{header_one, header_two}
use Rattle.std.specs.Prelude.{OnOk}
use Rattle.store_migration.proofs.Answering.{taken_over, judged_over, settled_as, judged_as, refused_of_err, settled_not_refused, still_goes_on, kept_counts, no_call, judged_counts}
use Rattle.store_migration.proofs.Leaving.{judged_not_laid, settled_laid, settled_number}
use Rattle.store_migration.specs.Left.{checkpoint_for, HasEitherPlace}
use Rattle.store_migration.proofs.migrating.take_over.Goals as goal

pub settle-requires : goal.settle-requires
settle-requires g c =
    let rooms = c.args.rooms.now in let value = c.header_two.ensures.value in
    let same : half_limit rooms ≡ half_limit c.header_two.result.rooms = ap (λ (h : Header). half_limit h.rooms) (sym value) in
    record {
      at_end = c.requires.at_end;
      limit = c.requires.limit ∙ same;
      header = c.header_two.ensures.header;
      format = ap (λ (h : Header). h.format) value;
      first = c.judge.ensures.first;
      fit = c.judge.ensures.fit;
      short = subst (λ (n : ℕ). 63 + records_len (records_of c.judge.new.memory) ≤ n) same c.in-Ok.ensures.short;
    }

pub returns-in-Ok-clause-any_moment : goal.returns-in-Ok-clause-any_moment
returns-in-Ok-clause-any_moment g c list is each =
    let shape = c.args.shape in let cloud = c.args.cloud in let value = c.header_two.ensures.value in
    let c0 = g.V.Shelf.cloud_at c.args.shelf.now cloud.0 in let c1 = g.V.Shelf.cloud_at c.settle.new.shelf cloud.0 in
    let next = c.in-Ok.ensures.next shape cloud list (journals.state_of c.args.kit.now.journal) c0 is in
    let here = subst (λ (h : Header). IsNextMemory h (compact shape list) c.in-Ok.commands 0 c.judge.new.memory c0) (sym value) next in
    subst (λ (h : Header). LeavesOnly c0 c1 (IsMigrating (header_one shape cloud) list h (compact shape list))) value
    (c.settle.ensures.any_moment (header_one shape cloud) list (compact shape list) is.c is.read here)

pub returns-in-Err-clause-any_moment : goal.returns-in-Err-clause-any_moment
returns-in-Err-clause-any_moment g c list is each =
    started (g.V.Shelf.cloud_at c.args.shelf.now c.args.cloud.0) _ (λ image left. inl (each image left).stands)

pub returns-in-Ok-clause-migrated : goal.returns-in-Ok-clause-migrated
returns-in-Ok-clause-migrated g c list is =
    let shape = c.args.shape in let cloud = c.args.cloud in let rooms = c.args.rooms.now in let value = c.header_two.ensures.value in
    let c0 = g.V.Shelf.cloud_at c.args.shelf.now cloud.0 in let c1 = g.V.Shelf.cloud_at c.settle.new.shelf cloud.0 in
    let next = c.in-Ok.ensures.next shape cloud list (journals.state_of c.args.kit.now.journal) c0 is in
    let here = subst (λ (h : Header). IsNextMemory h (compact shape list) c.in-Ok.commands 0 c.judge.new.memory c0) (sym value) next in
    settled_as shape cloud rooms list c1 c.in-Ok.commands c.settle.result c.settle.ensures.settled next.fresh.number
    (c.in-Ok.ensures.by_list shape cloud.0 list is.table is.read.sound is.remembers)
    (subst (λ (h : Header). OnOk c.settle.result ((image : Image) → IsImage c1.now image → StandsFor image h (compact shape list))) value
    (c.settle.ensures.migrated (header_one shape cloud) list (compact shape list) is.c is.read here))

pub returns-in-Err-clause-migrated : goal.returns-in-Err-clause-migrated
returns-in-Err-clause-migrated g c list is =
    judged_as c.args.shape c.args.cloud c.args.rooms.now list (g.V.Shelf.cloud_at c.args.shelf.now c.args.cloud.0) c.in-Err.error
    (c.in-Err.ensures.by_list c.args.shape c.args.cloud.0 list is.table is.read.sound is.remembers)

pub returns-in-Ok-clause-taken_over : goal.returns-in-Ok-clause-taken_over
returns-in-Ok-clause-taken_over g c =
    taken_over c.args.rooms.now (memory_of c.args.kit.now.memory) c.in-Ok.commands c.settle.result c.in-Ok.ensures.judged c.settle.ensures.settled

pub returns-in-Err-clause-taken_over : goal.returns-in-Err-clause-taken_over
returns-in-Err-clause-taken_over g c = judged_over c.args.rooms.now (memory_of c.args.kit.now.memory) c.in-Err.error c.in-Err.ensures.judged

pub returns-in-Ok-clause-goes_on : goal.returns-in-Ok-clause-goes_on
returns-in-Ok-clause-goes_on g c told w ended = c.settle.ensures.goes_on told w ended

pub returns-in-Err-clause-goes_on : goal.returns-in-Err-clause-goes_on
returns-in-Err-clause-goes_on g c told w ended = still_goes_on (g.V.Shelf.cloud_at c.args.shelf.now c.args.cloud.0)

pub returns-in-Ok-clause-spared : goal.returns-in-Ok-clause-spared
returns-in-Ok-clause-spared g c = settled_not_refused c.in-Ok.commands c.settle.result _ c.settle.ensures.settled

pub returns-in-Err-clause-spared : goal.returns-in-Err-clause-spared
returns-in-Err-clause-spared g c = refused_of_err c.in-Err.error _ refl

pub returns-in-Err-clause-call : goal.returns-in-Err-clause-call
returns-in-Err-clause-call g c = no_call (g.V.Shelf.cloud_at c.args.shelf.now) c.args.cloud.0 (g.V.Shelf.faults c.args.shelf.now)

pub returns-in-Err-clause-counts : goal.returns-in-Err-clause-counts
returns-in-Err-clause-counts g c =
    judged_counts c.args.rooms.now (memory_of c.args.kit.now.memory) c.in-Err.error _ _ c.in-Err.ensures.judged
    (kept_counts (g.V.Shelf.cloud_at c.args.shelf.now c.args.cloud.0) (g.V.Shelf.faults c.args.shelf.now))

pub returns-in-Ok-clause-laid : goal.returns-in-Ok-clause-laid
returns-in-Ok-clause-laid g c told w ended =
    let c0 = g.V.Shelf.cloud_at c.args.shelf.now c.args.cloud.0 in let c1 = g.V.Shelf.cloud_at c.settle.new.shelf c.args.cloud.0 in
    settled_laid c.in-Ok.commands c.settle.result _ c.settle.ensures.settled (record {
      commands = c.in-Ok.commands;
      number = settled_number c.in-Ok.commands c.settle.result c.settle.ensures.settled;
      kept = c.judge.new.memory;
      compacted = c.in-Ok.ensures.compacted;
      either = subst (λ (h : Header). HasEitherPlace w (checkpoint_for h c.in-Ok.commands c.judge.new.memory w) c0 c1 c.settle.result) c.header_two.ensures.value
          (c.settle.ensures.laid told w ended);
    })

pub returns-in-Err-clause-laid : goal.returns-in-Err-clause-laid
returns-in-Err-clause-laid g c told w ended = judged_not_laid c.args.rooms.now (memory_of c.args.kit.now.memory) c.in-Err.error _ c.in-Err.ensures.judged
