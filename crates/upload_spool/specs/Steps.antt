-- The steps of an opening.
use Rattle.std.specs.Prelude.{◌≡◌, ◌≢◌, ◌⊎◌, ℕ, ◌+◌, ◌-◌, ◌*◌, ◌<◌, ◌≤◌, min, Bool, true, false, IsTrue, nat_eq, List, [], ◌∷◌, ◌++◌, length, take, All, Option, Some, None, Result, Ok, Err}
use Rattle.std.specs.List.{IsDistinct}
use Rattle.grammar.specs.CdBase.Limits.{IsPath, file_limit}
use Rattle.grammar.specs.CdBase.Numbers.{numbers_of}
use Rattle.grammar.specs.CdBase.ids.CloudNo.{CloudNo}
use Rattle.grammar.specs.CdBase.ids.Fp.{Fp}
use Rattle.grammar.specs.CdBase.shape.Shape.{Shape}
use Rattle.commit_journal.specs.CdEdges.area.Area.TheVariants.{Journal, Shares}
use Rattle.commit_journal.specs.CdEdges.Disk.{Store, Cloud}
use Rattle.commit_journal.specs.JournalHalves.Beginnings.{IsUnbegun}
use Rattle.commit_journal.specs.JournalHalves.Findings.{IsFoundDamage}
use Rattle.commit_journal.specs.JournalHalves.Journals.{Where, with_body}
use Rattle.commit_journal.specs.Openings.{HasHeader}
use Rattle.commit_journal.specs.States.{IsJournalReading, IsJournalEnded}
use Rattle.commit_journal.specs.States as half
use Rattle.commit_journal.specs.declared.journal.Stage.TheVariants.{AtEnd}
use Rattle.upload_spool.specs.Opens.{Notes, Say, IsDamagedAt, HasAllNotes, gate_of, rising}
use Rattle.upload_spool.specs.Reading.{JobFields, job_in, lane_in, is_lane}
use Rattle.upload_spool.specs.Spools.{spool_header}
use Rattle.upload_spool.specs.declared.error.SpoolErr.{SpoolErr}
use Rattle.upload_spool.specs.declared.error.SpoolErr.TheVariants.{NotEmpty, Fault, Damaged, OtherStore, Rotten, NoMemory}
use Rattle.upload_spool.specs.declared.opening.KeptJob.{KeptJob}
use Rattle.upload_spool.specs.declared.opening.Records.{Records}
use Rattle.upload_spool.specs.declared.spool.Spool.{Spool}
use Rattle.sha2.specs.Sha256.{sha256 as sha256_of}
use Rattle.upload_job.specs.Lanes.{LaneView, lanes_resumed}
use Rattle.upload_spool.specs.States.{IsOf, state_of}
use Rattle.upload_spool.specs.declared.records.RecordFault.{RecordFault}
use Rattle.upload_spool.specs.declared.records.RecordFault.TheVariants as faults

-- The current half begins with the spool's header, and its records so far were read and say this.
pub record IsSpoolRead (shape : Shape) (state : half.JournalState) (store : Store) (notes : Option Notes) : Type 0 where
  pub w : Where
  pub header_is : w.start.header ≡ spool_header shape
  pub reading : IsJournalReading state store w
  pub say : Say shape None w.bodies notes

-- One record more was read, which isn't judged yet.
pub record IsPending (shape : Shape) (state : half.JournalState) (store : Store) (notes : Option Notes) : Type 0 where
  pub w : Where
  pub header_is : w.start.header ≡ spool_header shape
  pub reading : IsJournalReading state store (with_body w state.current.body)
  pub say : Say shape None w.bodies notes
  pub place : state.current.body_at ≡ gate_of w + 5

-- All records were read, up to the closed gate.
pub record IsAllRead (shape : Shape) (state : half.JournalState) (store : Store) (notes : Option Notes) : Type 0 where
  pub w : Where
  pub header_is : w.start.header ≡ spool_header shape
  pub ended : IsJournalEnded state store w
  pub say : Say shape None w.bodies notes

-- ---- the next record

abbrev pub NextNoteIs : Shape → half.JournalState → Store → Option Notes → Result Bool SpoolErr → Type 0
NextNoteIs shape after store notes (Ok true) = IsPending shape after store notes
NextNoteIs shape after store notes (Ok false) = IsAllRead shape after store notes
NextNoteIs shape after store notes (Err (Damaged at byte)) = IsDamagedAt shape store.read at byte
NextNoteIs shape after store notes (Err Fault) = Unit {0}
NextNoteIs shape after store notes (Err NoMemory) = ⊥
NextNoteIs shape after store notes (Err (NotEmpty area len)) = ⊥
NextNoteIs shape after store notes (Err (OtherStore found asked)) = ⊥
NextNoteIs shape after store notes (Err (Rotten named found)) = ⊥

-- whatever was read so far
abbrev pub ReadsNextNote : half.JournalState → half.JournalState → Cloud → Result Bool SpoolErr → Type 0
ReadsNextNote before after old result = IsTrue old.told → (shape : Shape) (notes : Option Notes) → IsSpoolRead shape before (old.now Journal) notes → NextNoteIs shape after (old.now Journal) notes result

-- how far the gate goes
abbrev pub GateIs : half.JournalState → half.JournalState → Result Bool SpoolErr → Type 0
GateIs before after (Ok true) = after.current.gate ≡ before.current.gate + 5 + length after.current.body
GateIs before after (Ok false) = after.current.gate ≡ before.current.gate
GateIs before after (Err e) = Unit {0}

-- ---- what its body says

-- the greatest place
abbrev pub last_place : ℕ
last_place = 18446744073709551615

-- the fault of a body whose record's length begins at that place
abbrev pub shown_fault : ℕ → RecordFault → SpoolErr
shown_fault place faults.Short = Damaged place 0
shown_fault place (faults.Wrong wrong byte) = Damaged (min (min (place + 4) last_place + wrong) last_place) byte

abbrev pub fields_kept : KeptJob → JobFields
fields_kept kept = record { user = kept.user.0; number = kept.version.0; path = kept.path; len = kept.len; digest = kept.digest.0 }

abbrev pub JobIs : List ℕ → ℕ → Result KeptJob SpoolErr → Type 0
JobIs body at (Ok kept) = job_in body ≡ Ok (fields_kept kept)
JobIs body at (Err NoMemory) = Unit {0}
JobIs body at (Err (Damaged place byte)) = (fault : RecordFault) × (job_in body ≡ Err fault) × (Damaged place byte ≡ shown_fault (at - 4) fault)
JobIs body at (Err Fault) = ⊥
JobIs body at (Err (NotEmpty area len)) = ⊥
JobIs body at (Err (OtherStore found asked)) = ⊥
JobIs body at (Err (Rotten named found)) = ⊥

abbrev pub LaneIs : Shape → List CloudNo → List CloudNo → List ℕ → ℕ → Result (Unit {0}) SpoolErr → Type 0
LaneIs shape noted more body at (Ok value) = (lane : CloudNo) × (lane_in shape noted body ≡ Ok lane.0) × (more ≡ noted ++ lane ∷ [])
LaneIs shape noted more body at (Err NoMemory) = Unit {0}
LaneIs shape noted more body at (Err (Damaged place byte)) = (fault : RecordFault) × (lane_in shape noted body ≡ Err fault) × (Damaged place byte ≡ shown_fault (at - 4) fault)
LaneIs shape noted more body at (Err Fault) = ⊥
LaneIs shape noted more body at (Err (NotEmpty area len)) = ⊥
LaneIs shape noted more body at (Err (OtherStore found asked)) = ⊥
LaneIs shape noted more body at (Err (Rotten named found)) = ⊥

-- ---- the lanes

abbrev pub notes_of : JobFields → List CloudNo → Option Notes
notes_of job lanes = Some (record { job = job; lanes = lanes })

abbrev pub LaneStepIs : Shape → JobFields → half.JournalState → Store → List CloudNo → Result Bool SpoolErr → Type 0
LaneStepIs shape job after store noted (Ok true) = IsSpoolRead shape after store (notes_of job noted)
LaneStepIs shape job after store noted (Ok false) = IsAllRead shape after store (notes_of job noted)
LaneStepIs shape job after store noted (Err (Damaged at byte)) = IsDamagedAt shape store.read at byte
LaneStepIs shape job after store noted (Err Fault) = Unit {0}
LaneStepIs shape job after store noted (Err NoMemory) = Unit {0}
LaneStepIs shape job after store noted (Err (NotEmpty area len)) = ⊥
LaneStepIs shape job after store noted (Err (OtherStore found asked)) = ⊥
LaneStepIs shape job after store noted (Err (Rotten named found)) = ⊥

-- whatever job was read
abbrev pub ReadsLane : Shape → half.JournalState → half.JournalState → Cloud → List CloudNo → List CloudNo → Result Bool SpoolErr → Type 0
ReadsLane shape before after old noted more result = IsTrue old.told → (job : JobFields) → IsSpoolRead shape before (old.now Journal) (notes_of job noted)
    → LaneStepIs shape job after (old.now Journal) more result

-- a lane more and seven bytes, or all as before
abbrev pub MoreNoted : Shape → List CloudNo → List CloudNo → ℕ → ℕ → Result Bool SpoolErr → Type 0
MoreNoted shape noted more gate after (Ok true) = (lane : CloudNo) × (is_lane shape noted lane.0 ≡ true) × (more ≡ noted ++ lane ∷ []) × (after ≡ gate + 7)
MoreNoted shape noted more gate after (Ok false) = (more ≡ noted) × (after ≡ gate)
MoreNoted shape noted more gate after (Err e) = Unit {0}

-- the lanes are different ones below n, and the gate stands seven places behind that one for each
pub record AreNoted (shape : Shape) (gate after : ℕ) (noted : List CloudNo) : Type 0 where
  pub distinct : IsDistinct nat_eq (numbers_of noted)
  pub below : All (λ cloud. cloud < shape.n) (numbers_of noted)
  pub near : after ≤ gate + 7 * length noted

-- ---- all records

-- why records aren't read to their end
abbrev pub IsSpoolRefused : Shape → List ℕ → SpoolErr → Type 0
IsSpoolRefused shape journal (Damaged at byte) = IsDamagedAt shape journal at byte
IsSpoolRefused shape journal Fault = Unit {0}
IsSpoolRefused shape journal NoMemory = Unit {0}
IsSpoolRefused shape journal (NotEmpty area len) = ⊥
IsSpoolRefused shape journal (OtherStore found asked) = ⊥
IsSpoolRefused shape journal (Rotten named found) = ⊥

-- the value has P, or the records aren't read to their end
abbrev pub HasValueOrRefusal : {T : Type 0} → Shape → List ℕ → (T → Type 0) → Result T SpoolErr → Type 0
HasValueOrRefusal shape journal P (Ok value) = P value
HasValueOrRefusal shape journal P (Err e) = IsSpoolRefused shape journal e

-- what the records say
abbrev pub notes_in : Option Records → Option Notes
notes_in None = None
notes_in (Some records) = notes_of (fields_kept records.job) records.noted.items

-- The fields are in their ranges, the lanes are different ones below n, and the journal is at its end, not far behind that gate.
pub record AreRecordsKept (shape : Shape) (gate : ℕ) (state : half.JournalState) (records : Records) : Type 0 where
  pub path : IsPath records.job.path
  pub few : records.job.len ≤ file_limit
  pub distinct : IsDistinct nat_eq (numbers_of records.noted.items)
  pub below : All (λ cloud. cloud < shape.n) (numbers_of records.noted.items)
  pub near : state.current.gate ≤ gate + 1084 + 7 * length records.noted.items
  pub stage : state.stage ≡ AtEnd

-- what a journal of these bytes is found to keep
abbrev pub FoundIs : Shape → List ℕ → Result (Option Records) SpoolErr → Type 0
FoundIs shape journal (Ok None) = IsUnbegun journal ⊎ HasAllNotes shape journal None
FoundIs shape journal (Ok (Some records)) = HasAllNotes shape journal (notes_in (Some records))
FoundIs shape journal (Err (OtherStore found asked)) = (half : ℕ) × HasHeader journal half found × (found ≢ spool_header shape) × (asked ≡ spool_header shape)
FoundIs shape journal (Err (Damaged at byte)) = IsFoundDamage journal at byte ⊎ IsDamagedAt shape journal at byte
FoundIs shape journal (Err Fault) = Unit {0}
FoundIs shape journal (Err NoMemory) = Unit {0}
FoundIs shape journal (Err (NotEmpty area len)) = ⊥
FoundIs shape journal (Err (Rotten named found)) = ⊥

-- The journal is at the end of the records, on the disk, and reads as before, as Shares does.
pub record HasSpoolEnded (shape : Shape) (state : half.JournalState) (old new : Cloud)
    (records : Records) : Type 0 where
  pub all : IsAllRead shape state (new.now Journal) (notes_in (Some records))
  pub journal : (new.now Journal).read ≡ (old.now Journal).read
  pub shares : new.now Shares ≡ old.now Shares

-- ---- the spool and its job

-- bytes are read, or a device call or memory failed
abbrev pub IsReadAnswer : {T : Type 0} → Result T SpoolErr → Type 0
IsReadAnswer (Ok value) = Unit {0}
IsReadAnswer (Err Fault) = Unit {0}
IsReadAnswer (Err NoMemory) = Unit {0}
IsReadAnswer (Err (NotEmpty area len)) = ⊥
IsReadAnswer (Err (Damaged at byte)) = ⊥
IsReadAnswer (Err (OtherStore found asked)) = ⊥
IsReadAnswer (Err (Rotten named found)) = ⊥

-- The spool and the job are those of the records and of these bytes of a file.
pub record IsSpoolBrought (shape : Shape) (records : Records) (state : half.JournalState) (bytes : List ℕ) (x : Spool × List LaneView) : Type 0 where
  pub shape_is : x.0.shape ≡ shape
  pub noted : x.0.noted.items ≡ records.noted.items
  pub journal : (state_of x.0).journal ≡ state
  pub of : IsOf (state_of x.0) (record { user = records.job.user; path = records.job.path; number = records.job.version; file = bytes })
  pub job_is : x.1 ≡ lanes_resumed shape (record { user = records.job.user; path = records.job.path; number = records.job.version; file = bytes }) (rising shape records.noted.items)
  pub len : length bytes ≡ records.job.len
  pub digest : sha256_of bytes ≡ records.job.digest.0

-- The file isn't the one that was kept.
pub record IsSpoolRotten (records : Records) (bytes : List ℕ) (named found : Fp) : Type 0 where
  pub named_is : named ≡ records.job.digest
  pub found_is : found.0 ≡ sha256_of bytes
  pub other : (length bytes ≢ records.job.len) ⊎ (found ≢ named)

abbrev pub BringsIs : Shape → Records → half.JournalState → Cloud → Result (Spool × List LaneView) SpoolErr → Type 0
BringsIs shape records state cloud (Ok x) = (bytes : List ℕ) × IsSpoolBrought shape records state bytes x × (IsTrue cloud.told → bytes ≡ take records.job.len (cloud.now Shares).read)
BringsIs shape records state cloud (Err (Rotten named found)) = (bytes : List ℕ) × IsSpoolRotten records bytes named found × (IsTrue cloud.told → bytes ≡ take records.job.len (cloud.now Shares).read)
BringsIs shape records state cloud (Err Fault) = Unit {0}
BringsIs shape records state cloud (Err NoMemory) = Unit {0}
BringsIs shape records state cloud (Err (Damaged at byte)) = ⊥
BringsIs shape records state cloud (Err (NotEmpty area len)) = ⊥
BringsIs shape records state cloud (Err (OtherStore found asked)) = ⊥
