-- What came of a file, by what came of its meeting, of its spool and of its lanes.
use Rattle.std.proofs.Common.{◌≡◌, inl, inr, ◌↔◌, ℕ, Bool, IsTrue, List, [], Err, refl, sym, subst}
use Rattle.std.specs.Prelude.{Result}
use Rattle.std.specs.List.{Contains}
use Rattle.upload_spool.specs.CdBase.ids.CloudNo.{CloudNo}
use Rattle.upload_spool.specs.CdBase.shape.Shape.{Shape}
use Rattle.upload_spool.specs.CdEdges.area.Area.TheVariants.{Journal}
use Rattle.upload_spool.specs.CdEdges.Causes.{Rose}
use Rattle.upload_spool.specs.CdEdges.Disk.{Cloud, Image, reads}
use Rattle.upload_spool.specs.CdEdges.Ports.{Telling}
use Rattle.upload_spool.specs.CdEdges.Shelf.{HasFailed, KeepsCounts}
use Rattle.upload_spool.proofs.CdEdges.Moments.{started, weaker, joined}
use Rattle.backup_command.specs.PortsLink.judging.AskedClouds.TheVariants as asked
use Rattle.backup_command.specs.PortsLink.meeting.MeetErr.{MeetErr}
use Rattle.backup_command.specs.PortsLink.meeting.MeetErr.TheVariants as errors
use Rattle.backup_command.specs.PortsLink.Meeting.{CountsMeeting, MeetsAll}
use Rattle.backup_command.specs.PortsLink.greeting.Greeted.{Greeted}
use Rattle.upload_spool.specs.UploadJob.Lanes.{LaneView, lanes_begun}
use Rattle.upload_spool.specs.UploadJob.Upload.{FileVersion}
use Rattle.upload_spool.specs.declared.error.SpoolErr.{SpoolErr}
use Rattle.upload_spool.specs.declared.error.SpoolErr.TheVariants as spool_errors
use Rattle.upload_spool.specs.declared.spool.Spool.{Spool}
use Rattle.upload_spool.specs.Spools.{IsBegunOr}
use Rattle.upload_spool.specs.States.{SpoolState, BeginsIs, IsSpool, LeavesJob, OnSpoolFault}
use Rattle.backup_command.specs.BackedUp.{AreDone, Met}
use Rattle.backup_command.specs.Lanes.{numbered}
use Rattle.spool_command.specs.declared.interruption.Interruption.{Interruption}
use Rattle.spool_command.specs.declared.interruption.Interruption.TheVariants.{Ports, Shelf, Memory}
use Rattle.spool_command.specs.declared.writing.Unspooled.TheVariants.{Interrupted}
use Rattle.spool_command.specs.Going.{GoneOn, HeldOn, WentOn}
use Rattle.spool_command.specs.Noted.{IfPorts, IfShelf}
use Rattle.spool_command.specs.Spooled.{CarriesSpool, IsSpoolKept, IsOwnOr, IsSpoolUnbegun, LeavesOwn, SpoolOutside, SparesFilled, SpooledOn, call_for, unmet_as}

-- ---- nothing was begun

pub untouched_none : (shape : Shape) (v : FileVersion) (cloud : Cloud) → LeavesJob shape v cloud cloud
untouched_none shape v cloud told none nojob = started cloud _ (λ image is. inl (nojob (image Journal) (is Journal)))

pub untouched_spared : (cloud : Cloud) → SparesFilled cloud cloud
untouched_spared cloud told some = record { armed = refl; past = refl; now = refl }

pub why_unbegun : (error : SpoolErr) (old new : Cloud) (before now : ℕ)
    → (IsTrue old.told → BeginsIs {T = Spool} (reads old.now) (Err error))
    → OnSpoolFault {T = Spool} (Err error) (HasFailed old new before now) (KeepsCounts old new before now)
    → IsSpoolUnbegun old new error
why_unbegun spool_errors.NoMemory old new before now is counts = tt
why_unbegun spool_errors.Fault old new before now is counts = counts.cloud
why_unbegun (spool_errors.NotEmpty area len) old new before now is counts = is
why_unbegun (spool_errors.Damaged at byte) old new before now is counts = is
why_unbegun (spool_errors.OtherStore found wanted) old new before now is counts = is
why_unbegun (spool_errors.Rotten named found) old new before now is counts = is

-- no cloud was met
pub not_met : (error : MeetErr) (out : SpoolOutside) (v : FileVersion) (text : List ℕ) → out.left ≡ out.folder
    → MeetsAll asked.Backup out.addresses out.before out.after (Err error)
    → CountsMeeting {A = Greeted} out.faults_before out.faults_after (Err error)
    → CarriesSpool out v (Err (unmet_as error)) text
not_met errors.Undialled out v text same meets counts = record { folder_is = same; meets = (meets, counts) }
not_met errors.Lost out v text same meets counts = record { folder_is = same; meets = (meets, counts) }
not_met (errors.Refused why) out v text same meets counts = record { folder_is = same; meets = meets }
not_met errors.NoMemory out v text same meets counts = inl same

-- ---- the job was kept

held_on : (shape : Shape) (v : FileVersion) (state : SpoolState) (all : List CloudNo) (mid new : Cloud)
    (result : Result Bool Interruption) → state.shape ≡ shape → state.noted ≡ [] → IsTrue mid.told → IsSpool state v [] mid
    → (IsTrue mid.told → (u : FileVersion) → IsSpool state u state.noted mid → HeldOn state.shape u state.noted all mid new result)
    → HeldOn shape v [] all mid new result
held_on shape v state all mid new result same none told is keeps =
    subst (λ (s : Shape). HeldOn s v [] all mid new result) same
    (subst (λ (l : List CloudNo). HeldOn state.shape v l all mid new result) none
    (keeps told v (subst (λ (l : List CloudNo). IsSpool state v l mid) (sym none) is)))

-- the job with no lane noted, as one that goes on
first_along : (shape : Shape) (v : FileVersion) (all : List CloudNo) (image : Image) → IsBegunOr shape v image → IsOwnOr shape v all image
first_along shape v all image begun = elim begun [
  | inl none ↦ inl none
  | inr spool ↦ inr (inl (record { more = []; later = all; all_is = refl; spool = spool }))
]

own_on : (shape : Shape) (v : FileVersion) (all : List CloudNo) (old mid new : Cloud) (result : Result Bool Interruption)
    → LeavesJob shape v old mid → (IsTrue old.told → HeldOn shape v [] all mid new result) → LeavesOwn shape v all old new
own_on shape v all old mid new result leaves held told none nojob =
    joined old mid new _ (weaker old mid _ _ (leaves told none nojob) (λ image at. first_along shape v all image at))
    (weaker mid new _ _ (held told).any_moment (λ image at. inr at))

pub spooled_on : (out : SpoolOutside) (v : FileVersion) (shape : Shape) (dialled : List ℕ) (behind : Telling)
    (clouds : List (CloudNo × ℕ)) (views : List LaneView) (state : SpoolState) (mid : Cloud) (result : Result Bool Interruption)
    (text : List ℕ) → Met (call_for out v) dialled shape behind → clouds ≡ numbered 0 dialled
    → views ≡ lanes_begun shape v → state.shape ≡ shape → state.noted ≡ [] → mid.told ≡ out.folder.told
    → LeavesJob shape v out.folder mid → (IsTrue out.folder.told → IsSpoolKept v state out.folder mid)
    → WentOn behind out.after clouds views state result text mid out.left
    → (IsTrue behind.told → (port : ℕ) → ¬ (Contains dialled port) → out.after.port port ≡ behind.port port)
    → SpooledOn out v result text
spooled_on out v shape dialled behind clouds views state mid result text met lines begun same none tells leaves kept w others =
    let held : IsTrue out.folder.told → HeldOn shape v [] w.all mid out.left result =
    λ told. held_on shape v state w.all mid out.left result same none (subst IsTrue (sym tells) told) (kept told).is w.keeps in
    record {
      shape = shape;
      dialled = dialled;
      behind = behind;
      met = met;
      answers = w.answers;
      after = w.after;
      all = w.all;
      had = w.had;
      had_is = subst (λ (l : List LaneView). IsTrue w.had ↔ AreDone l) begun w.had_is;
      gone = subst (λ (l : List LaneView). GoneOn behind out.after (numbered 0 dialled) l [] w.had result w.answers w.after w.all text) begun
          (subst (λ (l : List CloudNo). GoneOn behind out.after (numbered 0 dialled) views l w.had result w.answers w.after w.all text) none
          (subst (λ (l : List (CloudNo × ℕ)). GoneOn behind out.after l views state.noted w.had result w.answers w.after w.all text) lines
          w.gone));
      others = others;
      any_moment = own_on shape v w.all out.folder mid out.left result leaves held;
      keeps = λ told. record { empty = (kept told).empty; now = (held told).now };
    }

-- it was stopped
pub stopped : (why : Interruption) (out : SpoolOutside) (v : FileVersion) (text : List ℕ) → SpooledOn out v (Err why) text
    → IfPorts {T = Bool} (Err why) (Rose out.faults_before out.faults_after)
    → IfShelf {T = Bool} (Err why) (Rose out.folder.faults out.left.faults)
    → CarriesSpool out v (Err (Interrupted why)) text
stopped Ports out v text on lost failed = (on, lost)
stopped Shelf out v text on lost failed = (on, failed)
stopped Memory out v text on lost failed = inr (on.shape, on.all, on.any_moment)

pub if_shelf : (why : Interruption) (P Q : Type 0) → (P → Q) → IfShelf {T = Bool} (Err why) P → IfShelf {T = Bool} (Err why) Q
if_shelf Ports P Q more has = tt
if_shelf Shelf P Q more has = more has
if_shelf Memory P Q more has = tt

-- a folder that had to be empty, and was
pub was_empty : (v : FileVersion) (state : SpoolState) (old mid new : Cloud) → (IsTrue old.told → IsSpoolKept v state old mid)
    → SparesFilled old new
was_empty v state old mid new kept told some = absurd (some (kept told).empty)
