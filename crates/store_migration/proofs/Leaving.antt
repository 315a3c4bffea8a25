-- What a migration leaves of a cloud, whatever it stands for: the syncs and the reading, and then the checkpoint.
use Rattle.std.proofs.Common.{◌≡◌, ◌≢◌, inl, inr, ℕ, Result, Ok, Err, IfOk, refl, sym, ◌∙◌, ap, subst}
use Rattle.fresh_checkpoints.specs.CdBase.ids.CloudNo.{CloudNo}
use Rattle.fresh_checkpoints.specs.CdBase.shape.Shape.{Shape}
use Rattle.fresh_checkpoints.specs.CdEdges.area.Area.{Area}
use Rattle.fresh_checkpoints.specs.CdEdges.area.Area.TheVariants.{Journal, Shares, Recipes}
use Rattle.fresh_checkpoints.specs.CdEdges.Disk.{Store, Image, Cloud, MayLeave, IsImage, LeavesOnly, IsAtArea, reads}
use Rattle.fresh_checkpoints.specs.CdEdges.Shelf.{stable}
use Rattle.fresh_checkpoints.proofs.CdEdges.Moments.{joined, weaker, at_end}
use Rattle.fresh_checkpoints.proofs.CdEdges.Since.{image_of_stable}
use Rattle.cloud_opening.specs.CommitJournal.States as journals
use Rattle.cloud_opening.specs.JournalStart.rooms.UserRooms.{UserRooms}
use Rattle.cloud_opening.specs.Synced.{AreSynced}
use Rattle.cloud_opening.proofs.Synced.{synced_at, on_ok}
use Rattle.fresh_checkpoints.specs.JournalHalves.Journals.{Where, HasChain, IsEither}
use Rattle.fresh_checkpoints.specs.CloudMemory.Memory.{Memory}
use Rattle.fresh_checkpoints.specs.CloudMemory.Rooms.{memory_of}
use Rattle.fresh_checkpoints.specs.CloudMemory.cloud.CloudMemory.{CloudMemory}
use Rattle.large_users.specs.MigrationModel.Migrating.{header_two}
use Rattle.store_migration.specs.declared.errors.MigrateErr.{MigrateErr}
use Rattle.store_migration.specs.declared.errors.MigrateErr.TheVariants as why
use Rattle.store_migration.specs.Answers.{IfRefused, IfNoMemory}
use Rattle.store_migration.specs.Exact.{ReadsOld}
use Rattle.store_migration.specs.Judging.{MemoryJudgedAs, SettledAs}
use Rattle.store_migration.specs.Left.{checkpoint_for, LeavesOld, IsOldOrEither, HasTakenPlace, IsLeftBy, HasEitherPlace, IsLaidFrom, IfLaid}
use Rattle.store_migration.proofs.Whole.{ended_chain}

-- who judges lays no checkpoint
pub judged_not_laid : (rooms : UserRooms) (m : Memory) (error : MigrateErr) (P : Type 0) → MemoryJudgedAs rooms m (Err error) → IfLaid (Err error) P
judged_not_laid rooms m (why.Open error) P judged = tt
judged_not_laid rooms m why.Already P judged = tt
judged_not_laid rooms m (why.TooLarge user room used limit) P judged = tt
judged_not_laid rooms m why.Fault P judged = absurd judged
judged_not_laid rooms m why.NoMemory P judged = tt

-- what was settled was laid
pub settled_laid : (commands : ℕ) (result : Result ℕ MigrateErr) (P : Type 0) → SettledAs commands result → P → IfLaid result P
settled_laid commands (Ok value) P settled holds = holds
settled_laid commands (Err (why.Open error)) P settled holds = tt
settled_laid commands (Err why.Already) P settled holds = tt
settled_laid commands (Err (why.TooLarge user room used limit)) P settled holds = tt
settled_laid commands (Err why.Fault) P settled holds = holds
settled_laid commands (Err why.NoMemory) P settled holds = tt

pub settled_number : (commands : ℕ) (result : Result ℕ MigrateErr) → SettledAs commands result → IfOk result (λ n. n ≡ commands)
settled_number commands (Ok value) settled = settled
settled_number commands (Err e) settled = tt

-- a journal that wasn't read
pub unread_left : (shape : Shape) (cloud_no : CloudNo) (rooms : UserRooms) (old new : Cloud) (error : MigrateErr) → LeavesOld old new
    → IsLeftBy shape cloud_no rooms old new (Err error)
unread_left shape cloud_no rooms old new (why.Open error) run = run
unread_left shape cloud_no rooms old new why.Already run = run
unread_left shape cloud_no rooms old new (why.TooLarge user room used limit) run = run
unread_left shape cloud_no rooms old new why.Fault run = inl run
unread_left shape cloud_no rooms old new why.NoMemory run = run

-- the image with the journal as it was read
abbrev with_journal : Cloud → Image → Image
with_journal old image Journal = (old.now Journal).read
with_journal old image Shares = image Shares
with_journal old image Recipes = image Recipes

with_others : (old : Cloud) (image : Image) (other : Area) → other ≢ Journal → with_journal old image other ≡ image other
with_others old image Journal ne = absurd (ne refl)
with_others old image Shares ne = refl
with_others old image Recipes ne = refl

-- The areas of c0 were synced, and its journal was read to its end at c1. What came behind is a checkpoint in the place of its chain.
module _ (shape : Shape) (cloud_no : CloudNo) (rooms : UserRooms) (memory : CloudMemory) (journal : journals.JournalState) (w : Where) (c0 c1 c2 : Cloud)
    (first : LeavesOnly c0 c1 (IsImage c0.now)) (synced : AreSynced c0 c1) (read : ReadsOld shape cloud_no (reads c0.now) (memory_of memory) (Ok tt))
    (ended : journals.IsJournalEnded journal (c1.now Journal) w) where
  same_journal : (c1.now Journal).read ≡ (c0.now Journal).read
  same_journal = ap (λ (s : Store). s.read) (synced_at c0 c1 synced Journal)

  -- what might have been left of the areas but the journal then, might have been left before
  since_first : (image : Image) → ((other : Area) → other ≢ Journal → MayLeave (c1.now other) (image other)) → IsImage c1.now (with_journal c0 image)
  since_first image others Journal = subst (λ (s : Store). MayLeave s (c0.now Journal).read) (sym (synced_at c0 c1 synced Journal)) (image_of_stable (c0.now Journal).read)
  since_first image others Shares = others Shares (λ e. cc)
  since_first image others Recipes = others Recipes (λ e. cc)

  behind : (next : Where) (image : Image) → IsAtArea c1.now Journal (IsEither w next) image → IsOldOrEither c0 w next image
  behind next image at = inr (record {
    area = at.area;
    others = λ other ne. subst (MayLeave (c0.now other)) (with_others c0 image other ne)
        (at_end c0 c1 (IsImage c0.now) first (with_journal c0 image) (since_first image at.others) other);
  })

  taken_place : (result : Result ℕ MigrateErr) (laid : IsLaidFrom (header_two shape cloud_no rooms) memory w c1 c2 result)
      → HasTakenPlace shape cloud_no rooms laid.commands c0 c2 result
  taken_place result laid =
      let next = checkpoint_for (header_two shape cloud_no rooms) laid.commands laid.kept w in
      let P = IsOldOrEither c0 w next in
      record {
        memory = memory;
        kept = laid.kept;
        w = w;
        read = read;
        compacted = laid.compacted;
        chain_there = subst (λ (l : _). HasChain l w) same_journal (ended_chain journal (c1.now Journal) w ended);
        any_moment = joined c0 c1 c2 P (weaker c0 c1 (IsImage c0.now) P first (λ image left. inl left))
            (weaker c1 c2 (IsAtArea c1.now Journal (IsEither w next)) P laid.either.any_moment (behind next));
        settled = laid.either.settled;
        others = on_ok result _ _ (λ others other ne. others other ne ∙ synced_at c0 c1 synced other) laid.either.others;
      }

  pub laid_left : (result : Result ℕ MigrateErr) → IfRefused result (c2 ≡ c1) → IfNoMemory result ⊥
      → IfLaid result (IsLaidFrom (header_two shape cloud_no rooms) memory w c1 c2 result) → IsLeftBy shape cloud_no rooms c0 c2 result
  laid_left (Ok commands) same none laid =
      subst (λ (n : ℕ). HasTakenPlace shape cloud_no rooms n c0 c2 (Ok commands)) (sym laid.number) (taken_place (Ok commands) laid)
  laid_left (Err (why.Open error)) same none laid = subst (LeavesOld c0) (sym same) first
  laid_left (Err why.Already) same none laid = subst (LeavesOld c0) (sym same) first
  laid_left (Err (why.TooLarge user room used limit)) same none laid = subst (LeavesOld c0) (sym same) first
  laid_left (Err why.Fault) same none laid = inr (laid.commands, taken_place (Err why.Fault) laid)
  laid_left (Err why.NoMemory) same none laid = absurd none
