-- A kept job that goes on, and is given up where its version is entered at all clouds.
use Rattle.std.specs.Prelude.{◌≡◌, ◌⊎◌, ◌↔◌, ℕ, Bool, true, false, IsTrue, List, [], ◌∷◌, ◌++◌, Result, Ok, Err, if◌then◌else◌}
use Rattle.upload_spool.specs.CdBase.ids.CloudNo.{CloudNo}
use Rattle.upload_spool.specs.CdBase.shape.Shape.{Shape}
use Rattle.upload_spool.specs.CdEdges.area.Area.{Area}
use Rattle.upload_spool.specs.CdEdges.Disk.{Cloud, Image, IsImage, LeavesOnly}
use Rattle.upload_spool.specs.CdEdges.Ports.{Telling}
use Rattle.upload_spool.specs.CdEdges.Shelf.{IsFresh, Stays, stable}
use Rattle.upload_spool.specs.UploadJob.Lanes.{LaneView}
use Rattle.upload_spool.specs.UploadJob.Upload.{FileVersion}
use Rattle.backup_command.specs.Transcript.line.Line.{Line}
use Rattle.backup_command.specs.Transcript.line.Line.TheVariants as lines
use Rattle.upload_spool.specs.Spools.{SpoolFor, IsNotedOr}
use Rattle.upload_spool.specs.States.{SpoolState, IsSpool}
use Rattle.backup_command.specs.BackedUp.{AreDone}
use Rattle.backup_command.specs.Texts.{text_of}
use Rattle.spool_command.specs.declared.interruption.Interruption.{Interruption}
use Rattle.spool_command.specs.declared.interruption.Interruption.TheVariants.{Ports, Shelf, Memory}
use Rattle.spool_command.specs.Noted.{IsAlong, LanesNoted}

-- ---- the last lines

-- that the version is entered at all clouds, unless it was so before
abbrev pub stored_lines : Bool → List Line
stored_lines had = if had then [] else lines.JobStored 1 ∷ []

-- What became of a spool that was given up, with its last lines behind what was there.
abbrev pub EndsStored : Bool → List ℕ → List ℕ → Cloud → Cloud → Result (Unit {0}) Interruption → Type 0
EndsStored had before text old new (Ok u) =
    (text ≡ before ++ text_of (stored_lines had ++ lines.End 1 true ∷ [])) × (IsTrue old.told → IsFresh old new)
EndsStored had before text old new (Err Shelf) = (text ≡ before ++ text_of (stored_lines had)) × (IsTrue old.told → Stays old new)
EndsStored had before text old new (Err Memory) = IsTrue old.told → (new ≡ old) ⊎ IsFresh old new
EndsStored had before text old new (Err Ports) = ⊥

-- What became of the spool behind the lanes, with the last lines: where the version is entered at all clouds it was to be given up,
-- and else it stays.
abbrev pub EndsJob : Bool → Bool → List ℕ → List ℕ → Cloud → Cloud → Result Bool Interruption → Type 0
EndsJob had true before text old new (Ok given) = (given ≡ true) × EndsStored had before text old new (Ok tt)
EndsJob had true before text old new (Err why) = EndsStored had before text old new (Err why)
EndsJob had false before text old new (Ok given) = (given ≡ false) × (text ≡ before ++ text_of (lines.End 1 false ∷ [])) × (new ≡ old)
EndsJob had false before text old new (Err Memory) = new ≡ old
EndsJob had false before text old new (Err Ports) = ⊥
EndsJob had false before text old new (Err Shelf) = ⊥

-- ---- the job's lanes, with its lines

-- The job went on at these clouds, and is stored at all of them, or isn't; or the ports failed in a lane, or the shelf in a
-- note or in the end; or memory ran out, in a lane or behind all.
abbrev pub GoneOn : Telling → Telling → List (CloudNo × ℕ) → List LaneView → List CloudNo → Bool → Result Bool Interruption
    → List Line → List LaneView → List CloudNo → List ℕ → Type 0
GoneOn behind now clouds views noted had (Ok true) answers after all text =
    LanesNoted behind now clouds views noted (Ok tt) answers after all × AreDone after
    × (text ≡ text_of (lines.Job 1 ∷ (answers ++ (stored_lines had ++ lines.End 1 true ∷ []))))
GoneOn behind now clouds views noted had (Ok false) answers after all text =
    LanesNoted behind now clouds views noted (Ok tt) answers after all × ¬ (AreDone after)
    × (text ≡ text_of (lines.Job 1 ∷ (answers ++ lines.End 1 false ∷ [])))
GoneOn behind now clouds views noted had (Err Ports) answers after all text =
    LanesNoted behind now clouds views noted (Err Ports) answers after all × (text ≡ text_of (lines.Job 1 ∷ answers))
GoneOn behind now clouds views noted had (Err Shelf) answers after all text =
    (LanesNoted behind now clouds views noted (Err Shelf) answers after all × (text ≡ text_of (lines.Job 1 ∷ answers)))
    ⊎ (LanesNoted behind now clouds views noted (Ok tt) answers after all × AreDone after
    × (text ≡ text_of (lines.Job 1 ∷ (answers ++ stored_lines had))))
GoneOn behind now clouds views noted had (Err Memory) answers after all text =
    LanesNoted behind now clouds views noted (Err Memory) answers after all ⊎ LanesNoted behind now clouds views noted (Ok tt) answers after all

-- ---- what is kept

-- the folder's three areas are empty
abbrev pub IsFolderEmptied : Image → Type 0
IsFolderEmptied image = (area : Area) → image area ≡ []

-- a crash leaves the spool of this version with these lanes
abbrev pub IsSpoolHeld : Shape → FileVersion → List CloudNo → Cloud → Type 0
IsSpoolHeld shape v lanes cloud = (image : Image) → IsImage cloud.now image → SpoolFor image shape v lanes

-- Where the version is entered at all clouds the folder is empty, which a crash leaves so. Else a crash leaves the spool with
-- all lanes that were noted; where the shelf failed in a note, with those before it or with that one. Where memory ran out it is
-- one or the other.
abbrev pub NowHolds : Shape → FileVersion → List CloudNo → Cloud → Result Bool Interruption → Type 0
NowHolds shape v all cloud (Ok true) = (area : Area) → cloud.now area ≡ stable []
NowHolds shape v all cloud (Ok false) = IsSpoolHeld shape v all cloud
NowHolds shape v all cloud (Err Ports) = IsSpoolHeld shape v all cloud
NowHolds shape v all cloud (Err Shelf) = IsSpoolHeld shape v all cloud
    ⊎ ((front : List CloudNo) × (lane : CloudNo) × (all ≡ front ++ lane ∷ [])
    × ((image : Image) → IsImage cloud.now image → IsNotedOr shape v front lane image))
NowHolds shape v all cloud (Err Memory) = IsSpoolHeld shape v all cloud ⊎ ((area : Area) → cloud.now area ≡ stable [])

-- Each image since is the spool with the lanes that were noted so far, or empty.
pub record HeldOn (shape : Shape) (v : FileVersion) (noted all : List CloudNo) (old new : Cloud)
    (result : Result Bool Interruption) : Type 0 where
  pub any_moment : LeavesOnly old new (λ image. IsAlong shape v noted all image ⊎ IsFolderEmptied image)
  pub now : NowHolds shape v all new result

-- What the job came to, with its lines, and what is kept of it.
pub record WentOn (behind now : Telling) (clouds : List (CloudNo × ℕ)) (views : List LaneView) (state : SpoolState)
    (result : Result Bool Interruption) (text : List ℕ) (old new : Cloud) : Type 0 where
  pub had : Bool
  pub had_is : IsTrue had ↔ AreDone views
  pub answers : List Line
  pub after : List LaneView
  pub all : List CloudNo
  pub gone : GoneOn behind now clouds views state.noted had result answers after all text
  pub keeps : IsTrue old.told → (v : FileVersion) → IsSpool state v state.noted old
      → HeldOn state.shape v state.noted all old new result
  -- as long as a lane is open, no crash leaves less than the spool
  pub held : ¬ (LanesNoted behind now clouds views state.noted (Ok tt) answers after all × AreDone after)
      → IsTrue old.told → (v : FileVersion) → IsSpool state v state.noted old → LeavesOnly old new (IsAlong state.shape v state.noted all)
