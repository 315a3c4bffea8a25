-- What is read is an image, and stays one.
use Rattle.std.proofs.Common.{ℕ, Bool, true, false, cond, List, [], ◌∷◌, ◌∙◌, ⊎_elim, arith}
use Rattle.cd_edges.specs.declared.area.Area.{Area}
use Rattle.cd_edges.specs.Disk.{Store, Areas, IsImage, MayLeave, reads, overwritten}
use Rattle.cd_edges.specs.Shelf.{wrote}
use Rattle.cd_edges.proofs.Overwritten.{length-overwritten, overwritten_before, overwritten_after}
use Rattle.cd_edges.proofs.Since.{image_of_stable}
use Rattle.mem_disk.specs.History.{DiskStep, Write, Sync, Empty, Crash, with_area, nothing, after, now_of}
use Rattle.mem_disk.specs.Crashed.{same_area, crashed}

reads_written : (store : Store) (place : ℕ) (bytes : List ℕ) → MayLeave store store.read → MayLeave (wrote store place bytes) (overwritten store.read place bytes)
reads_written store place bytes reads = record {
  no_shorter = omega (arith, reads.no_shorter, length-overwritten store.read place bytes);
  no_longer = omega (arith, reads.no_longer, length-overwritten store.read place bytes);
  kept = λ k within outside. ⊎_elim (overwritten_before store.read place bytes k) (overwritten_after store.read place bytes k) outside.0 ∙ reads.kept k within outside.1;
}

with_area_image : (areas : Areas) (changed : Area) (store : Store) → IsImage areas (reads areas) → MayLeave store store.read → IsImage (with_area areas changed store) (reads (with_area areas changed store))
with_area_image areas changed store old new area = case (same_area changed area)
  where
    case : (b : Bool) → MayLeave (cond b store (areas area)) (cond b store (areas area)).read
    case true = new
    case false = old area

after_image : (areas : Areas) (step : DiskStep) → IsImage areas (reads areas) → IsImage (after areas step) (reads (after areas step))
after_image areas (Write area place bytes) old = with_area_image areas area _ old (reads_written (areas area) place bytes (old area))
after_image areas (Sync area) old = with_area_image areas area _ old (image_of_stable (areas area).read)
after_image areas Empty old = λ area. image_of_stable []
after_image areas (Crash fill whole) old = λ area. image_of_stable (crashed fill whole (areas area))

pub reads_image : (areas : Areas) (steps : List DiskStep) → IsImage areas (reads areas) → IsImage (now_of areas steps) (reads (now_of areas steps))
reads_image areas [] old = old
reads_image areas (step ∷ steps) old = reads_image (after areas step) steps (after_image areas step old)

pub nothing_image : IsImage nothing (reads nothing)
nothing_image area = image_of_stable []
