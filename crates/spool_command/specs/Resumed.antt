-- What going on with a kept job promises.
use Rattle.std.specs.Prelude.{◌≡◌, ◌⊎◌, ◌↔◌, ◌≤◌, ℕ, Bool, IsTrue, List, [], length, Option, Some, None, Result, Ok, Err}
use Rattle.std.specs.List.{Contains}
use Rattle.upload_spool.specs.CdBase.Limits.{IsPath}
use Rattle.upload_spool.specs.CdBase.ids.CloudNo.{CloudNo}
use Rattle.upload_spool.specs.CdBase.shape.Shape.{Shape}
use Rattle.upload_spool.specs.CdEdges.Causes.{Rose}
use Rattle.upload_spool.specs.CdEdges.Disk.{Cloud, Image, IsImage, LeavesOnly, reads}
use Rattle.upload_spool.specs.CdEdges.Ports.{Telling}
use Rattle.upload_spool.specs.CdEdges.area.Area.{Area}
use Rattle.upload_spool.specs.Recipe.Spelling.{file_limit}
use Rattle.upload_spool.specs.UploadJob.Lanes.{LaneView, lanes_resumed}
use Rattle.upload_spool.specs.UploadJob.Upload.{FileVersion}
use Rattle.backup_command.specs.Transcript.line.Line.{Line}
use Rattle.backup_command.specs.PortsLink.judging.AskedClouds.TheVariants as asked
use Rattle.backup_command.specs.PortsLink.meeting.MeetErr.TheVariants as unmet
use Rattle.backup_command.specs.PortsLink.Hellos.{hello}
use Rattle.backup_command.specs.PortsLink.Meeting.{MeetsAll}
use Rattle.backup_command.specs.PortsLink.Sending.{SendsOnly}
use Rattle.upload_spool.specs.declared.error.SpoolErr.{SpoolErr}
use Rattle.upload_spool.specs.declared.error.SpoolErr.TheVariants as spool_errors
use Rattle.upload_spool.specs.Opens.{OpensSpoolIs, rising}
use Rattle.upload_spool.specs.Spools.{FitsFileVersion, SpoolFor}
use Rattle.upload_spool.specs.States.{SpoolState, IsOf}
use Rattle.backup_command.specs.BackedUp.{AreDone, Met}
use Rattle.backup_command.specs.Lanes.{numbered}
use Rattle.backup_command.specs.Sends.{IsAskOn, SendsOn}
use Rattle.backup_command.specs.Writing.{Output}
use Rattle.spool_command.specs.declared.interruption.Interruption.{Interruption}
use Rattle.spool_command.specs.declared.interruption.Interruption.TheVariants.{Ports, Shelf, Memory}
use Rattle.spool_command.specs.declared.writing.Unspooled.{Unspooled}
use Rattle.spool_command.specs.declared.writing.Unspooled.TheVariants.{Undialled, Unheard, Refused, Unkept, Interrupted}
use Rattle.spool_command.specs.Going.{GoneOn, IsFolderEmptied, NowHolds}
use Rattle.spool_command.specs.Noted.{IsAlong, LanesNoted}
use Rattle.spool_command.specs.Spooled.{SpoolOutside, call_for, AreAddressesUnmet}
use Rattle.spool_command.specs.Writing.{IsWritten}

-- ---- what the folder is left as

-- what a crash might have left at the start, or empty areas
abbrev pub IsOldOrEmptied : Cloud → Image → Type 0
IsOldOrEmptied folder image = IsImage folder.now image ⊎ IsFolderEmptied image

-- The folder reads empty in the end, and each image since is one of before, or empty.
pub record IsCleared (folder left : Cloud) : Type 0 where
  pub empty : (area : Area) → (left.now area).read ≡ []
  pub any_moment : LeavesOnly folder left (IsOldOrEmptied folder)

-- where the shelf failed it stays
abbrev pub Clears : {T E : Type 0} → Cloud → Cloud → Result T E → Type 0
Clears folder left (Ok value) = IsCleared folder left
Clears folder left (Err error) = LeavesOnly folder left (IsImage folder.now)

-- No job is kept for clouds of this shape, and the folder is cleared.
pub record HasNoJob (shape : Shape) (folder left : Cloud) : Type 0 where
  pub opens : IsTrue folder.told → OpensSpoolIs shape (reads folder.now) (Ok None)
  pub clears : IsTrue folder.told → IsCleared folder left

-- What is kept for clouds of this shape can't be gone on with. It stays: each image since is one that a crash might have left before.
pub record IsSpoolUnopened (shape : Shape) (folder left : Cloud) (error : SpoolErr) : Type 0 where
  pub opens : IsTrue folder.told → OpensSpoolIs shape (reads folder.now) (Err error)
  pub stays : IsTrue folder.told → LeavesOnly folder left (IsImage folder.now)
  pub cause : error ≡ spool_errors.Fault → Rose folder.faults left.faults

-- The folder read as the spool of this version with these lanes. Each image since is one that a crash might have left before, or the
-- spool with the lanes that were noted so far, or empty; and it is never empty as long as a lane is open.
pub record KeptSince (shape : Shape) (u : FileVersion) (lanes all : List CloudNo) (folder left : Cloud) (result : Result Bool Interruption)
    (Stored : Type 0) : Type 0 where
  pub any_moment : LeavesOnly folder left (λ image. IsAlong shape u lanes all image ⊎ IsOldOrEmptied folder image)
  pub now : NowHolds shape u all left result
  pub held : ¬ Stored → LeavesOnly folder left (λ image. IsAlong shape u lanes all image ⊎ IsImage folder.now image)

-- ---- at clouds that were met

-- The job that is kept for clouds of this shape went on at these: the lanes that were noted are committed from the start, and so
-- nothing is sent on their ports.
pub record KeptOn (shape : Shape) (behind now : Telling) (clouds : List (CloudNo × ℕ)) (folder left : Cloud) (result : Result Bool Interruption)
    (text : List ℕ) : Type 0 where
  pub v : FileVersion
  pub path : IsPath v.path
  pub few : length v.file ≤ file_limit
  pub state : SpoolState
  pub of : IsOf state v
  pub views : List LaneView
  pub views_are : views ≡ lanes_resumed shape v (rising shape state.noted)
  pub opens : IsTrue folder.told → OpensSpoolIs shape (reads folder.now) (Ok (Some (state, views)))
  pub had : Bool
  pub had_is : IsTrue had ↔ AreDone views
  pub answers : List Line
  pub after : List LaneView
  pub all : List CloudNo
  pub gone : GoneOn behind now clouds views state.noted had result answers after all text
  pub kept : IsTrue folder.told → (u : FileVersion) (lanes : List CloudNo) → FitsFileVersion u → SpoolFor (reads folder.now) shape u lanes
      → (state.noted ≡ lanes)
      × KeptSince shape u lanes all folder left result (LanesNoted behind now clouds views lanes (Ok tt) answers after all × AreDone after)

-- What came of what is kept, with the text of its lines: the job went on; or there is none, or it can't be gone on with, and
-- nothing was sent.
abbrev pub GoesKept : Shape → Telling → Telling → ℕ → ℕ → List (CloudNo × ℕ) → Cloud → Cloud → Result (Option Bool) Unspooled → List ℕ → Type 0
GoesKept shape behind now faults later clouds folder left (Ok (Some stored)) text = KeptOn shape behind now clouds folder left (Ok stored) text
GoesKept shape behind now faults later clouds folder left (Ok None) text = (now ≡ behind) × HasNoJob shape folder left
GoesKept shape behind now faults later clouds folder left (Err (Unkept error)) text = (now ≡ behind) × IsSpoolUnopened shape folder left error
GoesKept shape behind now faults later clouds folder left (Err (Interrupted Ports)) text =
    KeptOn shape behind now clouds folder left (Err Ports) text × Rose faults later
GoesKept shape behind now faults later clouds folder left (Err (Interrupted Shelf)) text =
    KeptOn shape behind now clouds folder left (Err Shelf) text × Rose folder.faults left.faults
GoesKept shape behind now faults later clouds folder left (Err (Interrupted Memory)) text =
    KeptOn shape behind now clouds folder left (Err Memory) text
GoesKept shape behind now faults later clouds folder left (Err Undialled) text = ⊥
GoesKept shape behind now faults later clouds folder left (Err Unheard) text = ⊥
GoesKept shape behind now faults later clouds folder left (Err (Refused why)) text = ⊥

-- ---- what was sent

-- Behind the Hellos nothing but pieces of the requests of the job was sent that is kept for clouds of this shape, those of each lane on
-- its cloud's port alone.
pub record SendsKept (shape : Shape) (dialled : List ℕ) (behind now : Telling) (folder : Cloud) : Type 0 where
  pub v : FileVersion
  pub state : SpoolState
  pub of : IsOf state v
  pub views : List LaneView
  pub views_are : views ≡ lanes_resumed shape v (rising shape state.noted)
  pub opens : IsTrue folder.told → OpensSpoolIs shape (reads folder.now) (Ok (Some (state, views)))
  pub sends : SendsOn (IsAskOn (numbered 0 dialled) views) behind now

-- The same, or nothing was sent.
abbrev pub SendsKeptOr : Shape → List ℕ → Telling → Telling → Cloud → Type 0
SendsKeptOr shape dialled behind now folder = (now ≡ behind) ⊎ SendsKept shape dialled behind now folder

-- ---- the whole

-- no version of a file: what a meeting says doesn't depend on one
abbrev pub any_version : FileVersion
any_version = record { user = record { 0 = 0 }; path = []; number = record { 0 = 0 }; file = [] }

-- The kept job was found: it went on, or the shelf or memory failed before.
abbrev pub HasFoundJob : Result (Option Bool) Unspooled → Type 0
HasFoundJob (Ok (Some stored)) = Unit {0}
HasFoundJob (Ok None) = ⊥
HasFoundJob (Err (Unkept spool_errors.Fault)) = Unit {0}
HasFoundJob (Err (Unkept spool_errors.NoMemory)) = Unit {0}
HasFoundJob (Err (Unkept (spool_errors.NotEmpty area len))) = ⊥
HasFoundJob (Err (Unkept (spool_errors.Damaged at byte))) = ⊥
HasFoundJob (Err (Unkept (spool_errors.OtherStore found asked))) = ⊥
HasFoundJob (Err (Unkept (spool_errors.Rotten named found))) = ⊥
HasFoundJob (Err (Interrupted why)) = Unit {0}
HasFoundJob (Err Undialled) = ⊥
HasFoundJob (Err Unheard) = ⊥
HasFoundJob (Err (Refused why)) = ⊥

-- The clouds were met, and behind their Hellos this came of what is kept. No port but theirs changed since.
pub record MetAndWent (out : SpoolOutside) (came : Result (Option Bool) Unspooled) (text : List ℕ) : Type 0 where
  pub shape : Shape
  pub dialled : List ℕ
  pub behind : Telling
  pub met : Met (call_for out any_version) dialled shape behind
  pub goes : GoesKept shape behind out.after out.faults_before out.faults_after (numbered 0 dialled) out.folder out.left came text
  pub found : IsTrue out.folder.told → (u : FileVersion) (lanes : List CloudNo) → FitsFileVersion u → SpoolFor (reads out.folder.now) shape u lanes → HasFoundJob came
  pub others : IsTrue behind.told → (port : ℕ) → ¬ Contains dialled port → out.after.port port ≡ behind.port port

-- Nothing but pieces of Hellos was sent; or all clouds replied as asked, and then nothing but pieces of the requests of the kept job.
abbrev pub HasSentKept : SpoolOutside → Type 0
HasSentKept out = SendsOnly (λ content. content ≡ hello) out.before out.after
    ⊎ ((shape : Shape) × (dialled : List ℕ) × (behind : Telling) × Met (call_for out any_version) dialled shape behind
    × SendsKept shape dialled behind out.after out.folder)

-- Memory ran out before all clouds were met: the folder is as before.
pub record IsLackedUnmet (out : SpoolOutside) : Type 0 where
  pub folder_is : out.left ≡ out.folder
  pub meets : MeetsAll asked.Backup out.addresses out.before out.after (Err unmet.NoMemory)

-- What came of what is kept, with the text of its lines.
abbrev pub CarriesResumed : SpoolOutside → Result (Option Bool) Unspooled → List ℕ → Type 0
CarriesResumed out (Ok kept) text = MetAndWent out (Ok kept) text
CarriesResumed out (Err Undialled) text = AreAddressesUnmet out Undialled
CarriesResumed out (Err Unheard) text = AreAddressesUnmet out Unheard
CarriesResumed out (Err (Refused why)) text = AreAddressesUnmet out (Refused why)
CarriesResumed out (Err (Unkept error)) text = MetAndWent out (Err (Unkept error)) text
CarriesResumed out (Err (Interrupted Ports)) text = MetAndWent out (Err (Interrupted Ports)) text
CarriesResumed out (Err (Interrupted Shelf)) text = MetAndWent out (Err (Interrupted Shelf)) text
CarriesResumed out (Err (Interrupted Memory)) text = IsLackedUnmet out ⊎ MetAndWent out (Err (Interrupted Memory)) text

-- The whole promise.
pub record IsResumed (status : ℕ) (outside : SpoolOutside) (out : Output) : Type 0 where
  pub came : Result (Option Bool) Unspooled
  pub text : List ℕ
  pub carries : CarriesResumed outside came text
  pub writes : IsWritten came text out status
