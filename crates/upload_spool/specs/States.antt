-- What a spool knows, and what its calls leave of a told cloud.
use Rattle.std.specs.Prelude.{◌≡◌, ◌≢◌, ◌⊎◌, ◌==◌, ℕ, ◌≤◌, if◌then◌else◌, false, IsTrue, List, [], ◌∷◌, ◌++◌, length, map, take, Option, Some, None, Result, Ok, Err, OnOk, IfOk}
use Rattle.std.specs.List.{range_with_len}
use Rattle.sha2.specs.Sha256.{sha256 as sha256_of}
use Rattle.grammar.specs.CdBase.ids.CloudNo.{CloudNo}
use Rattle.grammar.specs.CdBase.ids.UserId.{UserId}
use Rattle.grammar.specs.CdBase.ids.Version.{Version}
use Rattle.grammar.specs.CdBase.ids.Fp.{Fp}
use Rattle.grammar.specs.CdBase.shape.Shape.{Shape}
use Rattle.commit_journal.specs.CdEdges.area.Area.{Area}
use Rattle.commit_journal.specs.CdEdges.area.Area.TheVariants.{Journal, Shares, Recipes}
use Rattle.commit_journal.specs.CdEdges.Disk.{Store, Areas, Cloud, Image, MayLeave, LeavesOnly, reads}
use Rattle.commit_journal.specs.CdEdges.Shelf.{stable}
use Rattle.commit_journal.specs.JournalStart.start.Header.{Header}
use Rattle.commit_journal.specs.JournalHalves.Beginnings.{IsUnbegun, new_of}
use Rattle.commit_journal.specs.JournalHalves.Halves.{is_half_begun}
use Rattle.commit_journal.specs.JournalHalves.Journals.{HasChain, with_body, used_by}
use Rattle.commit_journal.specs.declared.journal.Stage.TheVariants.{AtEnd}
use Rattle.commit_journal.specs.declared.errors.OpenErr.{OpenErr}
use Rattle.commit_journal.specs.declared.errors.OpenErr.TheVariants as opens
use Rattle.commit_journal.specs.States.{IsJournalEnded, IsJournalReading}
use Rattle.commit_journal.specs.States as half
use Rattle.upload_job.specs.Lanes.{LaneView}
use Rattle.upload_job.specs.Upload.{FileVersion, work_of}
use Rattle.upload_spool.specs.declared.error.SpoolErr.{SpoolErr}
use Rattle.upload_spool.specs.declared.error.SpoolErr.TheVariants.{NotEmpty, Fault, Damaged, OtherStore, Rotten, NoMemory}
use Rattle.upload_spool.specs.declared.spool.Spool.{Spool}
use Rattle.upload_spool.specs.Spools.{AreJobLanes, HasOpenJob, IsBegunOr, IsNotedOr, spool_chain, spool_limit}
use Rattle.upload_spool.specs.Spools.{job_bytes}

-- what a spool shows
pub record SpoolState : Type 0 where
  pub shape : Shape
  pub user : UserId
  pub version : Version
  pub path : List ℕ
  pub len : ℕ  -- how many bytes the file has
  pub digest : Fp  -- its SHA-256
  pub noted : List CloudNo  -- the lanes that were noted, in order
  pub journal : half.JournalState

abbrev pub state_of : Spool → SpoolState
state_of s = record {
  shape = s.shape;
  user = s.user;
  version = s.version;
  path = s.path;
  len = s.len;
  digest = s.digest;
  noted = s.noted.items;
  journal = half.state_of s.journal;
}

-- The spool keeps this version of a file, as far as a spool knows it.
pub record IsOf (state : SpoolState) (v : FileVersion) : Type 0 where
  pub user : state.user ≡ v.user
  pub number : state.version ≡ v.number
  pub path : state.path ≡ v.path
  pub len : state.len ≡ length v.file
  pub digest : state.digest.0 ≡ sha256_of v.file

-- a crash leaves the file's bytes in front of the area
abbrev pub HasFile : List ℕ → Store → Type 0
HasFile file store = (image : List ℕ) → MayLeave store image → take (length file) image ≡ file

-- The cloud keeps this version and these different lanes, all of it on the disk, and the spool stands at the end of its records.
pub record IsSpool (state : SpoolState) (v : FileVersion) (lanes : List CloudNo) (cloud : Cloud) : Type 0 where
  pub of : IsOf state v
  pub noted : state.noted ≡ lanes
  pub apart : AreJobLanes state.shape lanes
  pub ended : IsJournalEnded state.journal (cloud.now Journal) (spool_chain state.shape v lanes)
  pub within : used_by (spool_chain state.shape v lanes) ≤ spool_limit
  pub alone : is_half_begun 1 (cloud.now Journal).read ≡ false
  pub file : HasFile v.file (cloud.now Shares)

-- ---- whose job it is

-- each lane's work is that of this version
abbrev pub IsJobOf : Shape → FileVersion → List LaneView → Type 0
IsJobOf shape v lanes = map (λ (lane : LaneView). lane.work) lanes ≡ map (work_of shape v) (range_with_len 0 shape.n)

-- ---- beginning

-- the first area that isn't empty, and how many bytes it has: journal, shares, recipes
abbrev pub chosen : ℕ → ℕ → ℕ → Option (Area × ℕ)
chosen journal shares recipes =
    if journal == 0 then
    if shares == 0 then
    if recipes == 0 then None
    else Some (Recipes, recipes)
    else Some (Shares, shares)
    else Some (Journal, journal)

abbrev pub first_filled : Image → Option (Area × ℕ)
first_filled image = chosen (length (image Journal)) (length (image Shares)) (length (image Recipes))

-- what `begin` answers of these areas
abbrev pub BeginsIs : {T : Type 0} → Image → Result T SpoolErr → Type 0
BeginsIs image (Ok value) = first_filled image ≡ None
BeginsIs image (Err (NotEmpty area len)) = first_filled image ≡ Some (area, len)
BeginsIs image (Err Fault) = Unit {0}
BeginsIs image (Err NoMemory) = first_filled image ≡ None
BeginsIs image (Err (Damaged at byte)) = ⊥
BeginsIs image (Err (OtherStore found asked)) = ⊥
BeginsIs image (Err (Rotten named found)) = ⊥

-- no image of the journal has an open job
abbrev pub NoOpenJob : Store → Type 0
NoOpenJob store = (image : List ℕ) → MayLeave store image → ¬ (HasOpenJob image)

-- Where the areas are empty and no crash leaves a job, each image since has none, or this one.
abbrev pub LeavesJob : Shape → FileVersion → Cloud → Cloud → Type 0
LeavesJob shape v old new = IsTrue old.told → first_filled (reads old.now) ≡ None → NoOpenJob (old.now Journal)
    → LeavesOnly old new (IsBegunOr shape v)

abbrev pub HasBegunSpool : FileVersion → Cloud → Cloud → Result Spool SpoolErr → Type 0
HasBegunSpool v old new result = IsTrue old.told → first_filled (reads old.now) ≡ None → IfOk result (λ spool. IsSpool (state_of spool) v [] new)

-- the spool is that of this version, no lane is noted, and it is open
pub record IsBegunSpool (shape : Shape) (v : FileVersion) (spool : Spool) : Type 0 where
  pub shape_is : spool.shape ≡ shape
  pub of : IsOf (state_of spool) v
  pub none : spool.noted.items ≡ []
  pub stage : (state_of spool).journal.stage ≡ AtEnd

-- ---- the steps of a beginning

-- each image since that state of a cloud has in Journal what a crash might have left there then
abbrev pub IsJournalKept : Cloud → Cloud → Type 0
IsJournalKept start now = LeavesOnly start now (λ image. MayLeave (start.now Journal) (image Journal))

-- the area has so many of the file's bytes, which a crash leaves
abbrev pub HoldsFileFront : ℕ → List ℕ → Store → Type 0
HoldsFileFront at file store = (store.read ≡ take at file) × ((at ≡ 0) ⊎ (store ≡ stable (take at file)))

-- So many of the file's bytes are written since that state of a cloud.
pub record IsWrittenSoFar (start now : Cloud) (at : ℕ) (file : List ℕ) : Type 0 where
  pub leaves : IsJournalKept start now
  pub others : (other : Area) → other ≢ Shares → now.now other ≡ start.now other
  pub held : (start.now Shares).read ≡ [] → HoldsFileFront at file (now.now Shares)

-- each image since has in Journal what a crash might have left there before
abbrev pub KeepsJournalSince : Cloud → Cloud → Type 0
KeepsJournalSince old new = IsTrue old.told → IsJournalKept old new

-- Shares, which was empty, has the file
abbrev pub HasWrittenFile : {T E : Type 0} → List ℕ → Cloud → Cloud → Result T E → Type 0
HasWrittenFile file old new result = IsTrue old.told → (old.now Shares).read ≡ [] → OnOk result (HasFile file (new.now Shares))

-- the areas but this one are as they were
abbrev pub AllButAreaStay : {T E : Type 0} → Area → Cloud → Cloud → Result T E → Type 0
AllButAreaStay area old new result = IsTrue old.told → OnOk result ((other : Area) → other ≢ area → new.now other ≡ old.now other)

-- where no half was begun, each image since has no open job, and Shares as a crash might have left it before
pub record HasNoOpenJob (old : Areas) (image : Image) : Type 0 where
  pub none : ¬ (HasOpenJob (image Journal))
  pub shares : MayLeave (old Shares) (image Shares)

abbrev pub LeavesNone : Cloud → Cloud → Type 0
LeavesNone old new = IsTrue old.told → IsUnbegun (old.now Journal).read → NoOpenJob (old.now Journal) → LeavesOnly old new (HasNoOpenJob old.now)

-- half 0 has the header and no record, and half 1 isn't begun
pub record IsNewSpool (state : half.JournalState) (header : Header) (cloud : Cloud) : Type 0 where
  pub ended : IsJournalEnded state (cloud.now Journal) (new_of header)
  pub alone : is_half_begun 1 (cloud.now Journal).read ≡ false

abbrev pub HasNewSpool : {T E : Type 0} → half.JournalState → Header → Cloud → Cloud → Result T E → Type 0
HasNewSpool after header old new result = IsTrue old.told → IsUnbegun (old.now Journal).read → OnOk result (IsNewSpool after header new)

-- such a journal, read up to its start
pub record IsNewRead (state : half.JournalState) (header : Header) (cloud : Cloud) : Type 0 where
  pub reading : IsJournalReading state (cloud.now Journal) (new_of header)
  pub has : HasChain (cloud.now Journal).read (new_of header)
  pub alone : is_half_begun 1 (cloud.now Journal).read ≡ false

-- no job is open, or half 0 alone has the header and this record, and Shares begins with the file
pub record IsNewJob (header : Header) (file body : List ℕ) (image : Image) : Type 0 where
  pub alone : is_half_begun 1 (image Journal) ≡ false
  pub has : HasChain (image Journal) (with_body (new_of header) body)
  pub file_is : take (length file) (image Shares) ≡ file

abbrev pub IsNewJobOr : Header → List ℕ → List ℕ → Image → Type 0
IsNewJobOr header file body image = (¬ (HasOpenJob (image Journal))) ⊎ IsNewJob header file body image

abbrev pub KeepsNewJob : Header → List ℕ → List ℕ → Cloud → Cloud → Type 0
KeepsNewJob header file body old new = IsTrue old.told → first_filled (reads old.now) ≡ None → NoOpenJob (old.now Journal)
    → LeavesOnly old new (IsNewJobOr header file body)

-- the same of a cloud, all of whose journal is on the disk
pub record HasJob (state : half.JournalState) (header : Header) (file body : List ℕ) (cloud : Cloud) : Type 0 where
  pub ended : IsJournalEnded state (cloud.now Journal) (with_body (new_of header) body)
  pub alone : is_half_begun 1 (cloud.now Journal).read ≡ false
  pub file_is : HasFile file (cloud.now Shares)

abbrev pub HasNewJob : {T E : Type 0} → half.JournalState → Header → List ℕ → List ℕ → Cloud → Cloud → Result T E
    → Type 0
HasNewJob after header file body old new result = IsTrue old.told → first_filled (reads old.now) ≡ None
    → OnOk result (HasJob after header file body new)

-- a spool of this version that isn't open, and the body of its record
pub record IsDraft (shape : Shape) (v : FileVersion) (spool : Spool) (body : List ℕ) : Type 0 where
  pub shape_is : spool.shape ≡ shape
  pub of : IsOf (state_of spool) v
  pub none : spool.noted.items ≡ []
  pub body_is : body ≡ job_bytes v
  pub some : 1 ≤ length body
  pub few : length body ≤ 1079

-- the same cause, as a spool says it
abbrev pub spool_error : OpenErr → SpoolErr
spool_error opens.Fault = Fault
spool_error (opens.NotBegun len) = Damaged len 0
spool_error (opens.Damaged at byte) = Damaged at byte
spool_error (opens.OtherStore found asked at) = OtherStore found asked

-- nothing but a fault comes
abbrev pub IsSpoolOkOrFault : {T : Type 0} → Result T SpoolErr → Type 0
IsSpoolOkOrFault (Ok value) = Unit {0}
IsSpoolOkOrFault (Err Fault) = Unit {0}
IsSpoolOkOrFault (Err NoMemory) = ⊥
IsSpoolOkOrFault (Err (NotEmpty area len)) = ⊥
IsSpoolOkOrFault (Err (Damaged at byte)) = ⊥
IsSpoolOkOrFault (Err (OtherStore found asked)) = ⊥
IsSpoolOkOrFault (Err (Rotten named found)) = ⊥

-- a note ends well, or a device call or memory failed
abbrev pub IsNoteAnswer : {T : Type 0} → Result T SpoolErr → Type 0
IsNoteAnswer (Ok value) = Unit {0}
IsNoteAnswer (Err Fault) = Unit {0}
IsNoteAnswer (Err NoMemory) = Unit {0}
IsNoteAnswer (Err (NotEmpty area len)) = ⊥
IsNoteAnswer (Err (Damaged at byte)) = ⊥
IsNoteAnswer (Err (OtherStore found asked)) = ⊥
IsNoteAnswer (Err (Rotten named found)) = ⊥

-- ---- notes

-- Whatever spool it is: each image since has the lanes before, or this one more.
abbrev pub KeepsOrNotes : SpoolState → CloudNo → Cloud → Cloud → Type 0
KeepsOrNotes before lane old new = IsTrue old.told → (v : FileVersion) (lanes : List CloudNo) → IsSpool before v lanes old
    → LeavesOnly old new (IsNotedOr before.shape v lanes lane)

abbrev pub HasNoted : {T E : Type 0} → SpoolState → SpoolState → CloudNo → Cloud → Cloud → Result T E → Type 0
HasNoted before after lane old new result = IsTrue old.told → (v : FileVersion) (lanes : List CloudNo) → IsSpool before v lanes old
    → OnOk result (IsSpool after v (lanes ++ lane ∷ []) new)

-- ---- answers

-- one fact where a device call failed, and another for every other answer
abbrev pub OnSpoolFault : {T : Type 0} → Result T SpoolErr → Type 0 → Type 0 → Type 0
OnSpoolFault (Ok value) failed other = other
OnSpoolFault (Err Fault) failed other = failed
OnSpoolFault (Err NoMemory) failed other = other
OnSpoolFault (Err (NotEmpty area len)) failed other = other
OnSpoolFault (Err (Damaged at byte)) failed other = other
OnSpoolFault (Err (OtherStore found asked)) failed other = other
OnSpoolFault (Err (Rotten named found)) failed other = other
