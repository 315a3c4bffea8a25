-- Blobs that a write leaves alone.
use Rattle.std.proofs.Common.{◌≡◌, ℕ, ◌+◌, ◌-◌, ◌<◌, ◌≤◌, ◌⊎◌, List, length, sym, subst, arith, inl, inr}
use Rattle.std.specs.Prelude.{All, slice_index_or}
use Rattle.fresh_checkpoints.specs.CdEdges.area.Area.{Area}
use Rattle.fresh_checkpoints.specs.CdEdges.area.Area.TheVariants.{Journal, Shares, Recipes}
use Rattle.fresh_checkpoints.specs.CdEdges.Disk.{MayLeave, Cloud, Store, Image, LeavesOnly, IsAtArea, overwritten, reads}
use Rattle.fresh_checkpoints.specs.CdEdges.Shelf.{stable, wrote}
use Rattle.fresh_checkpoints.proofs.CdEdges.Moments.{weaker}
use Rattle.fresh_checkpoints.proofs.CdEdges.Overwritten.{length-overwritten, overwritten_before, overwritten_after}
use Rattle.record_laws.specs.ContainerLog.Laying.{Placed, IsAt}
use Rattle.record_laws.specs.ContainerLog.States.{State, IsTorn, in_area, area_flushed}
use Rattle.cloud_store.specs.CommitJournal.States as journals
use Rattle.fresh_checkpoints.specs.JournalHalves.Halves.{half_limit}
use Rattle.compact_lists.specs.JournalStart.start.Header.{Header}
use Rattle.compact_lists.specs.UserDedup.command.Command.{Command}
use Rattle.fresh_checkpoints.specs.CloudAreas.Chains.{laid_shares}
use Rattle.fresh_checkpoints.specs.CloudAreas.Placing.{shares_in}
use Rattle.fresh_checkpoints.specs.CloudAreas.Standing.{Chain, IsChain, StandsFor}
use Rattle.fresh_checkpoints.specs.CloudDisk.Disk.{IsRead}
use Rattle.fresh_checkpoints.specs.CloudDisk.Held.{AreBelow, LieIn}
use Rattle.fresh_checkpoints.proofs.CloudDiskLaws.Both.{as_read}
use Rattle.fresh_checkpoints.proofs.CloudDiskLaws.Standing.{stands, holds_in}
use Rattle.fresh_checkpoints.proofs.ContainerLog.Blobs.{same_at, within}
use Rattle.fresh_checkpoints.specs.Checkpoints.Settling.{KeepsList}
use Rattle.blob_copy.specs.Apart.{IsApart}

module _ (old : List ℕ) (end : ℕ) (bytes : List ℕ) (b : Placed) (apart : IsApart end bytes b) (at : IsAt old b) where
  -- once they are written
  pub written_apart : IsAt (overwritten old end bytes) b
  written_apart = same_at old (overwritten old end bytes) b at
      (omega (arith, within old b at, length-overwritten old end bytes))
      (λ k lt. elim apart [
        | inl front ↦ overwritten_before old end bytes (b.place + k) (omega (arith, front, lt))
        | inr behind ↦ overwritten_after old end bytes (b.place + k) (omega (arith, behind))
      ])

  -- in what a crash leaves before they are synced
  pub torn_apart : (image : List ℕ) → MayLeave (wrote (stable old) end bytes) image → IsAt image b
  torn_apart image left = same_at old image b at
      (let long : length old ≤ length image = left.no_shorter in omega (arith, within old b at, long))
      (λ k lt. left.kept (b.place + k) (omega (arith, within old b at, lt)) (outside k lt, tt))
    where
      outside : (k : ℕ) → k < length b.blob → (b.place + k < end) ⊎ (end + length bytes ≤ b.place + k)
      outside k lt = elim apart [
        | inl front ↦ inl (omega (arith, front, lt))
        | inr behind ↦ inr (omega (arith, behind))
      ]

-- a flush of a log whose area is all on the disk
pub flush_torn : (log : State) (old : Cloud) (image : Image) (b : Placed) → old.now log.area ≡ stable (in_area log old) → IsApart log.end log.staged b → IsAt (in_area log old) b → IsTorn log old image
    → IsAt (image log.area) b
flush_torn log old image b on_disk apart at torn =
    torn_apart (in_area log old) log.end log.staged b apart at (image log.area)
    (subst (λ (s : Store). MayLeave (wrote s log.end log.staged) (image log.area)) on_disk torn.area)

pub flush_written : (log : State) (old new : Cloud) (b : Placed) → IsApart log.end log.staged b → IsAt (in_area log old) b → new.now log.area ≡ area_flushed log old → IsAt (in_area log new) b
flush_written log old new b apart at is =
    subst (λ (s : Store). IsAt s.read b) (sym is) (written_apart (in_area log old) log.end log.staged b apart at)

-- ---- a list whose blobs lie apart from what is written

module _ (header : Header) (list : List Command) (c : Chain) (journal : journals.JournalState) (old new : Cloud) (r : IsRead header list c journal old) (log : State) where
  journal_in : (image : Image) → MayLeave (old.now Journal) (image Journal) → IsChain header (half_limit header.rooms) (image Journal) c
  journal_in image left =
      subst (λ (bytes : List ℕ). IsChain header (half_limit header.rooms) bytes c) (sym (as_read (old.now Journal) (image Journal) (r.on_disk Journal) left)) r.is_chain

  all_apart : (area : Area) (blobs : List Placed) (image : Image) → All (IsApart log.end log.staged) blobs → LieIn blobs (old.now area).read
      → MayLeave (wrote (old.now area) log.end log.staged) (image area) → LieIn blobs (image area)
  all_apart area blobs image apart lie left = λ k d lt.
      torn_apart (old.now area).read log.end log.staged (slice_index_or blobs k d) (apart k d lt) (lie k d lt) (image area)
      (subst (λ (s : Store). MayLeave (wrote s log.end log.staged) (image area)) (r.on_disk area) left)

  -- shares are flushed
  pub shares_torn : log.area ≡ Shares → All (IsApart log.end log.staged) (laid_shares list (shares_in c.records)) → LeavesOnly old new (IsTorn log old) → KeepsList header list old new
  shares_torn area apart run = weaker old new (IsTorn log old) (λ (image : Image). StandsFor image header list) run (λ image t.
      let at = subst (λ (a : Area). IsAtArea old.now a (MayLeave (wrote (old.now a) log.end log.staged)) image) area t in
      stands image header list c r.sound (journal_in image (at.others Journal (λ e. cc)))
      (holds_in header (reads old.now) image list c r.holds
      (all_apart Shares (laid_shares list (shares_in c.records)) image apart r.holds.shares at.area)
      (subst (LieIn c.recipes) (sym (as_read (old.now Recipes) (image Recipes) (r.on_disk Recipes) (at.others Recipes (λ e. cc)))) r.holds.recipes)))

  -- recipes are flushed
  pub recipes_torn : log.area ≡ Recipes → All (IsApart log.end log.staged) c.recipes → LeavesOnly old new (IsTorn log old) → KeepsList header list old new
  recipes_torn area apart run = weaker old new (IsTorn log old) (λ (image : Image). StandsFor image header list) run (λ image t.
      let at = subst (λ (a : Area). IsAtArea old.now a (MayLeave (wrote (old.now a) log.end log.staged)) image) area t in
      stands image header list c r.sound (journal_in image (at.others Journal (λ e. cc)))
      (holds_in header (reads old.now) image list c r.holds
      (subst (LieIn (laid_shares list (shares_in c.records))) (sym (as_read (old.now Shares) (image Shares) (r.on_disk Shares) (at.others Shares (λ e. cc)))) r.holds.shares)
      (all_apart Recipes c.recipes image apart r.holds.recipes at.area)))

-- what ends in front of a place is apart from what is written behind it
pub below_apart : (least end : ℕ) (bytes : List ℕ) (blobs : List Placed) → AreBelow least blobs → least ≤ end → All (IsApart end bytes) blobs
below_apart least end bytes blobs below le = λ k d lt.
    let b : (slice_index_or blobs k d).place + length (slice_index_or blobs k d).blob ≤ least = below k d lt in inl (omega (arith, b, le))

-- what begins behind what is written is apart from it
pub behind_apart : (least end : ℕ) (bytes : List ℕ) (blobs : List Placed) → All (λ (b : Placed). least ≤ b.place) blobs → end + length bytes ≤ least → All (IsApart end bytes) blobs
behind_apart least end bytes blobs behind le = λ k d lt.
    let b : least ≤ (slice_index_or blobs k d).place = behind k d lt in inr (omega (arith, b, le))
