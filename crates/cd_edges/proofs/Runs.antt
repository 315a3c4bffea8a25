-- A run of calls on one area of a cloud.
use Rattle.std.proofs.Common.{◌≢◌, ℕ, List, Result}
use Rattle.cd_edges.specs.declared.area.Area.{Area}
use Rattle.cd_edges.specs.Disk.{Store, MayLeave, Cloud, LeavesOnly, IsAtArea}
use Rattle.cd_edges.specs.Shelf.{wrote, Writes, Syncs}
use Rattle.cd_edges.proofs.Moments.{started}
use Rattle.cd_edges.proofs.Torn.{After, after_write, after_sync, goes_on}

pub record Run (changed : Area) (Q : List ℕ → Type 0) (start end : Cloud) : Type 0 where
  pub leaves : LeavesOnly start end (IsAtArea start.now changed Q)
  pub others : (other : Area) → other ≢ changed → (image : List ℕ) → MayLeave (end.now other) image → MayLeave (start.now other) image

module _ (changed : Area) (Q : List ℕ → Type 0) where
  pub begin : (start : Cloud) → ((image : List ℕ) → MayLeave (start.now changed) image → Q image) → Run changed Q start start
  begin start here = record {
    leaves = started start (IsAtArea start.now changed Q) (λ image now. record { area = here (image changed) (now changed); others = λ other ne. now other });
    others = λ other ne image now. now;
  }

  next : (start old new : Cloud) (left : Store) → Run changed Q start old → After old new changed left → ((image : List ℕ) → MayLeave left image → Q image) → Run changed Q start new
  next start old new left run after here = record {
    leaves = goes_on start old new (IsAtArea start.now changed Q) changed left run.leaves after (λ image now. record {
      area = here (image changed) (after.area (image changed) (now changed));
      others = λ other ne. run.others other ne (image other) (after.others other ne (image other) (now other));
    });
    others = λ other ne image now. run.others other ne image (after.others other ne image now);
  }

  -- a write, however it ended
  pub writes : {T E : Type 0} (r : Result T E) (start old new : Cloud) (place : ℕ) (bytes : List ℕ) → Run changed Q start old → Writes old new changed place bytes r
      → ((image : List ℕ) → MayLeave (wrote (old.now changed) place bytes) image → Q image) → Run changed Q start new
  writes r start old new place bytes run w here = next start old new _ run (after_write r old new changed place bytes w) here

  -- a sync, however it ended
  pub syncs : {T E : Type 0} (r : Result T E) (start old new : Cloud) → Run changed Q start old → MayLeave (old.now changed) (old.now changed).read → Syncs old new changed r
      → ((image : List ℕ) → MayLeave (old.now changed) image → Q image) → Run changed Q start new
  syncs r start old new run reads s here = next start old new _ run (after_sync r old new changed reads s) here
