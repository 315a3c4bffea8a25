-- What backing up with a spool promises.
use Rattle.std.specs.Prelude.{◌≡◌, ◌≢◌, ◌⊎◌, ◌↔◌, ℕ, Bool, IsTrue, List, [], Option, Some, None, Result, Ok, Err}
use Rattle.std.specs.List.{Contains}
use Rattle.upload_spool.specs.CdBase.ids.CloudNo.{CloudNo}
use Rattle.upload_spool.specs.CdBase.shape.Shape.{Shape}
use Rattle.upload_spool.specs.CdEdges.Causes.{Rose}
use Rattle.upload_spool.specs.CdEdges.Disk.{Cloud, Image, LeavesOnly, reads}
use Rattle.upload_spool.specs.CdEdges.Ports.{Telling}
use Rattle.upload_spool.specs.CdEdges.Shelf.{Stays}
use Rattle.upload_spool.specs.CdEdges.area.Area.TheVariants.{Journal}
use Rattle.upload_spool.specs.Recipe.Spelling.{file_limit}
use Rattle.upload_spool.specs.UploadJob.Lanes.{LaneView, lanes_begun}
use Rattle.upload_spool.specs.UploadJob.Upload.{FileVersion}
use Rattle.backup_command.specs.Transcript.ending.Ending.TheVariants as endings
use Rattle.backup_command.specs.Transcript.line.Line.{Line}
use Rattle.backup_command.specs.Transcript.Endings.{ending_text}
use Rattle.backup_command.specs.PortsLink.judging.AskedClouds.TheVariants as asked
use Rattle.backup_command.specs.PortsLink.meeting.MeetErr.{MeetErr}
use Rattle.backup_command.specs.PortsLink.meeting.MeetErr.TheVariants as unmet
use Rattle.backup_command.specs.PortsLink.Meeting.{MeetsAll}
use Rattle.upload_spool.specs.declared.error.SpoolErr.{SpoolErr}
use Rattle.upload_spool.specs.declared.error.SpoolErr.TheVariants as spool_errors
use Rattle.upload_spool.specs.Spools.{HasOpenJob}
use Rattle.upload_spool.specs.States.{SpoolState, BeginsIs, IsSpool, LeavesJob, NoOpenJob, first_filled}
use Rattle.backup_command.specs.BackedUp.{AreDone, BackupCall, Met}
use Rattle.backup_command.specs.Lanes.{numbered}
use Rattle.backup_command.specs.Reading.{Input, IsFileRead, IsFileTooLong}
use Rattle.backup_command.specs.Writing.{Output, IsSilent, HasWrittenOrCause}
use Rattle.spool_command.specs.declared.interruption.Interruption.{Interruption}
use Rattle.spool_command.specs.declared.interruption.Interruption.TheVariants.{Ports, Shelf, Memory}
use Rattle.spool_command.specs.declared.spooling.SpooledFile.{SpooledFile}
use Rattle.spool_command.specs.declared.writing.Unspooled.{Unspooled}
use Rattle.spool_command.specs.declared.writing.Unspooled.TheVariants.{Undialled, Unheard, Refused, Unkept, Interrupted}
use Rattle.spool_command.specs.Going.{GoneOn, IsFolderEmptied, NowHolds}
use Rattle.spool_command.specs.Noted.{IsAlong}
use Rattle.spool_command.specs.Writing.{IsWritten}

-- what the ports and the folder tell before and after
pub record SpoolOutside : Type 0 where
  pub addresses : ℕ
  pub before : Telling
  pub after : Telling
  pub faults_before : ℕ
  pub faults_after : ℕ
  pub folder : Cloud
  pub left : Cloud

abbrev pub call_for : SpoolOutside → FileVersion → BackupCall
call_for out v = record {
  user = v.user;
  path = v.path;
  version = v.number;
  addresses = out.addresses;
  before = out.before;
  after = out.after;
  faults_before = out.faults_before;
  faults_after = out.faults_after;
}

abbrev pub version_for : SpooledFile → List ℕ → FileVersion
version_for file bytes = record { user = file.user; path = file.path.now; number = file.version; file = bytes }

-- the backup of this version, to so many addresses
abbrev pub call_of : SpoolOutside → SpooledFile → BackupCall
call_of out file = call_for out (version_for file [])

-- Why nothing was begun, by the folder's areas, before and after it.
abbrev pub IsSpoolUnbegun : Cloud → Cloud → SpoolErr → Type 0
IsSpoolUnbegun old new spool_errors.NoMemory = Unit {0}
IsSpoolUnbegun old new spool_errors.Fault = Rose old.faults new.faults
IsSpoolUnbegun old new error = IsTrue old.told → BeginsIs {T = Unit {0}} (reads old.now) (Err error)

-- a folder that isn't empty stays as it is
abbrev pub SparesFilled : Cloud → Cloud → Type 0
SparesFilled old new = IsTrue old.told → first_filled (reads old.now) ≢ None → Stays old new

-- The folder was empty, and has the job now, with no lane noted.
pub record IsSpoolKept (v : FileVersion) (state : SpoolState) (old new : Cloud) : Type 0 where
  pub empty : first_filled (reads old.now) ≡ None
  pub is : IsSpool state v [] new

-- why no cloud was met, as a kept job says it
abbrev pub unmet_as : MeetErr → Unspooled
unmet_as unmet.Undialled = Undialled
unmet_as (unmet.Refused why) = Refused why
unmet_as unmet.Lost = Unheard
unmet_as unmet.NoMemory = Interrupted Memory

abbrev pub NotMet : SpoolOutside → Unspooled → Type 0
NotMet out Undialled =
    MeetsAll asked.Backup out.addresses out.before out.after (Err unmet.Undialled) × Rose out.faults_before out.faults_after
NotMet out Unheard =
    MeetsAll asked.Backup out.addresses out.before out.after (Err unmet.Lost) × Rose out.faults_before out.faults_after
NotMet out (Refused why) = MeetsAll asked.Backup out.addresses out.before out.after (Err (unmet.Refused why))
NotMet out (Unkept error) = ⊥
NotMet out (Interrupted why) = ⊥

-- Addresses weren't dialled, heard or as asked: the folder is as before.
pub record AreAddressesUnmet (out : SpoolOutside) (came : Unspooled) : Type 0 where
  pub folder_is : out.left ≡ out.folder
  pub meets : NotMet out came

-- The clouds were met and the job wasn't kept: nothing was sent behind the Hellos.
pub record IsUnkept (out : SpoolOutside) (v : FileVersion) (error : SpoolErr) : Type 0 where
  pub shape : Shape
  pub dialled : List ℕ
  pub met : Met (call_for out v) dialled shape out.after
  pub refused : IsSpoolUnbegun out.folder out.left error
  pub any_moment : LeavesJob shape v out.folder out.left

-- no job is open, or this one, with the lanes that were noted so far, or all is empty
abbrev pub IsOwnOr : Shape → FileVersion → List CloudNo → Image → Type 0
IsOwnOr shape v all image = (¬ (HasOpenJob (image Journal))) ⊎ (IsAlong shape v [] all image ⊎ IsFolderEmptied image)

-- Where the folder was empty and no crash left a job there, each image since is so.
abbrev pub LeavesOwn : Shape → FileVersion → List CloudNo → Cloud → Cloud → Type 0
LeavesOwn shape v all old new = IsTrue old.told → first_filled (reads old.now) ≡ None → NoOpenJob (old.now Journal)
    → LeavesOnly old new (IsOwnOr shape v all)

-- What is kept of a job whose lanes went: the folder was empty, and now it has the job and the lanes that were noted, or is empty
-- where the version is entered at all clouds.
pub record IsKeptOn (shape : Shape) (v : FileVersion) (all : List CloudNo) (old new : Cloud) (result : Result Bool Interruption)
    : Type 0 where
  pub empty : first_filled (reads old.now) ≡ None
  pub now : NowHolds shape v all new result

-- The job was kept, and its lanes went so, in order, each on the port of its cloud. No port but theirs changed behind the Hellos.
pub record SpooledOn (out : SpoolOutside) (v : FileVersion) (result : Result Bool Interruption) (text : List ℕ) : Type 0 where
  pub shape : Shape
  pub dialled : List ℕ
  pub behind : Telling
  pub met : Met (call_for out v) dialled shape behind
  pub answers : List Line
  pub after : List LaneView
  pub all : List CloudNo
  pub had : Bool
  pub had_is : IsTrue had ↔ AreDone (lanes_begun shape v)
  pub gone : GoneOn behind out.after (numbered 0 dialled) (lanes_begun shape v) [] had result answers after all text
  pub others : IsTrue behind.told → (port : ℕ) → ¬ (Contains dialled port) → out.after.port port ≡ behind.port port
  pub any_moment : LeavesOwn shape v all out.folder out.left
  pub keeps : IsTrue out.folder.told → IsKeptOn shape v all out.folder out.left result

-- Memory ran out: the folder is as before, or each image since has no open job, or this one, or is empty.
abbrev pub IsShort : SpoolOutside → FileVersion → Type 0
IsShort out v =
    (out.left ≡ out.folder) ⊎ ((shape : Shape) × (all : List CloudNo) × LeavesOwn shape v all out.folder out.left)

-- What came of a file that was read, with the text of its lines.
abbrev pub CarriesSpool : SpoolOutside → FileVersion → Result (Option Bool) Unspooled → List ℕ → Type 0
CarriesSpool out v (Ok (Some stored)) text = SpooledOn out v (Ok stored) text
CarriesSpool out v (Ok None) text = ⊥
CarriesSpool out v (Err Undialled) text = AreAddressesUnmet out Undialled
CarriesSpool out v (Err Unheard) text = AreAddressesUnmet out Unheard
CarriesSpool out v (Err (Refused why)) text = AreAddressesUnmet out (Refused why)
CarriesSpool out v (Err (Unkept error)) text = IsUnkept out v error
CarriesSpool out v (Err (Interrupted Ports)) text = SpooledOn out v (Err Ports) text × Rose out.faults_before out.faults_after
CarriesSpool out v (Err (Interrupted Shelf)) text = SpooledOn out v (Err Shelf) text × Rose out.folder.faults out.left.faults
CarriesSpool out v (Err (Interrupted Memory)) text = IsShort out v

-- neither the ports nor the folder were touched
pub record IsOutsideUntouched (out : SpoolOutside) : Type 0 where
  pub tells : out.after ≡ out.before
  pub faults : out.faults_after ≡ out.faults_before
  pub folder_is : out.left ≡ out.folder

-- The whole promise, by the way it ended.
pub data IsSpooled (status : ℕ) (outside : SpoolOutside) (file : SpooledFile) (input : Input)
    (out : Output) : Type 0 where
  ReadLacked : status ≡ 6 → IsSilent out → IsOutsideUntouched outside → IsSpooled status outside file input out
  ReadFailed : status ≡ 3 → Rose input.faults_before input.faults_after → IsSilent out → IsOutsideUntouched outside
      → IsSpooled status outside file input out
  ReadTooMuch : (byte : ℕ) → IsFileTooLong input byte
      → HasWrittenOrCause (ending_text (endings.Script 1 file_limit (Some byte))) 2 out status
      → IsOutsideUntouched outside
      → IsSpooled status outside file input out
  Carried : (bytes : List ℕ) (came : Result (Option Bool) Unspooled) (text : List ℕ) → IsFileRead input bytes
      → CarriesSpool outside (version_for file bytes) came text → IsWritten came text out status
      → IsSpooled status outside file input out
