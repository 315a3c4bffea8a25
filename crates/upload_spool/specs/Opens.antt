-- What an opening of a spool finds, over areas of these bytes: each answer exactly.
use Rattle.std.specs.Prelude.{◌≡◌, ◌≢◌, ◌⊎◌, ℕ, ◌+◌, ◌*◌, ◌<◌, ◌≤◌, List, [], ◌∷◌, ◌++◌, length, take, drop, filter, slice_index, Option, Some, None, Result, Ok, Err, ◌==◌}
use Rattle.std.specs.List.{list_any, range_with_len}
use Rattle.std.specs.Int.{w32, to_be_bytes}
use Rattle.sha2.specs.Sha256.{sha256 as sha256_of}
use Rattle.grammar.specs.CdBase.ids.CloudNo.{CloudNo}
use Rattle.grammar.specs.CdBase.shape.Shape.{Shape}
use Rattle.commit_journal.specs.CdEdges.area.Area.TheVariants.{Journal, Shares}
use Rattle.commit_journal.specs.CdEdges.Disk.{Image}
use Rattle.commit_journal.specs.JournalHalves.Records.{IsDamage, chain}
use Rattle.commit_journal.specs.JournalHalves.Frames.{IsClosed}
use Rattle.commit_journal.specs.JournalStart.Spelling.{records_of}
use Rattle.commit_journal.specs.JournalHalves.Beginnings.{IsUnbegun}
use Rattle.commit_journal.specs.JournalHalves.Halves.{half_len, IsCurrent}
use Rattle.commit_journal.specs.JournalHalves.Findings.{part_of, IsFoundDamage}
use Rattle.commit_journal.specs.JournalHalves.Journals.{Where, HasChain, all_bodies, with_body}
use Rattle.commit_journal.specs.Openings.{HasHeader}
use Rattle.commit_journal.specs.Outcomes.{records_place}
use Rattle.upload_job.specs.Lanes.{LaneView, lanes_resumed}
use Rattle.upload_job.specs.Upload.{FileVersion}
use Rattle.upload_spool.specs.declared.error.SpoolErr.{SpoolErr}
use Rattle.upload_spool.specs.declared.error.SpoolErr.TheVariants.{NotEmpty, Fault, Damaged, OtherStore, Rotten, NoMemory}
use Rattle.upload_spool.specs.declared.records.RecordFault.{RecordFault}
use Rattle.upload_spool.specs.declared.spool.Spool.{Spool}
use Rattle.upload_spool.specs.declared.records.RecordFault.TheVariants as faults
use Rattle.upload_spool.specs.Spools.{spool_header}
use Rattle.grammar.specs.CdBase.Limits.{IsPath, file_limit}
use Rattle.commit_journal.specs.declared.journal.Stage.TheVariants.{AtEnd}
use Rattle.upload_spool.specs.States.{SpoolState, IsOf, state_of}
use Rattle.upload_spool.specs.Reading.{JobFields, job_in, lane_in}

-- what the records say so far: the job, and the lanes that were noted
pub record Notes : Type 0 where
  pub job : JobFields
  pub lanes : List CloudNo

abbrev pub first_notes : Result JobFields RecordFault → Result Notes RecordFault
first_notes (Ok job) = Ok (record { job = job; lanes = [] })
first_notes (Err fault) = Err fault

abbrev pub more_notes : Notes → Result ℕ RecordFault → Result Notes RecordFault
more_notes notes (Ok cloud) = Ok (record { job = notes.job; lanes = notes.lanes ++ record { 0 = cloud } ∷ [] })
more_notes notes (Err fault) = Err fault

-- the first record is the job's, and each later one a new lane's
abbrev pub with_record : Shape → Option Notes → List ℕ → Result Notes RecordFault
with_record shape None body = first_notes (job_in body)
with_record shape (Some notes) body = more_notes notes (lane_in shape notes.lanes body)

-- these bodies lead from what was said before to this
abbrev pub Say : Shape → Option Notes → List (List ℕ) → Option Notes → Type 0
Say shape before [] after = before ≡ after
Say shape before (body ∷ bodies) after = (notes : Notes) × (with_record shape before body ≡ Ok notes) × Say shape (Some notes) bodies after

-- where a fault of a body stands, whose record's length begins at that place: its own place, or the length's, whose byte is 0
abbrev pub IsRecordFaultAt : ℕ → RecordFault → ℕ → ℕ → Type 0
IsRecordFaultAt place faults.Short at byte = (at ≡ place) × (byte ≡ 0)
IsRecordFaultAt place (faults.Wrong wrong found) at byte = (at ≡ place + 4 + wrong) × (byte ≡ found)

-- ---- a chain that was read so far

-- the place of the gate behind these bodies, and what its half has from there on
abbrev pub gate_of : Where → ℕ
gate_of w = w.half * half_len + length (chain (all_bodies w))

abbrev pub rest_behind : List ℕ → Where → List ℕ
rest_behind journal w = drop (length (chain (all_bodies w))) (part_of w.half journal)

-- The current half begins with the spool's header, and these open records behind its start say this.
pub record HasReadSpool (shape : Shape) (journal : List ℕ) (w : Where) (notes : Option Notes) : Type 0 where
  pub header_is : w.start.header ≡ spool_header shape
  pub current : IsCurrent journal w.half w.start
  pub rest : List ℕ
  pub spelled : part_of w.half journal ≡ chain (all_bodies w) ++ rest
  pub say : Say shape None w.bodies notes

-- the next record is damaged, or the chain ends before all records of its checkpoint
abbrev pub IsChainDamage : List ℕ → Where → ℕ → ℕ → Type 0
IsChainDamage journal w at byte =
    IsDamage (rest_behind journal w) (gate_of w) at byte
    ⊎ (IsClosed (rest_behind journal w) × (length w.bodies < records_of w.start.checkpoint) × (at ≡ w.half * half_len + records_place w.start)
    × (byte ≡ slice_index (to_be_bytes w32 (records_of w.start.checkpoint)) 0))

-- the next record is there, and its body is wrong
abbrev pub IsWrongNext : Shape → List ℕ → Where → Option Notes → ℕ → ℕ → Type 0
IsWrongNext shape journal w notes at byte = (body : List ℕ) × (fault : RecordFault) × (with_record shape notes body ≡ Err fault)
    × (rest : List ℕ) × (part_of w.half journal ≡ chain (all_bodies (with_body w body)) ++ rest) × IsRecordFaultAt (gate_of w + 1) fault at byte

-- behind the records that were read one is damaged, or its body is wrong
abbrev pub IsDamagedAt : Shape → List ℕ → ℕ → ℕ → Type 0
IsDamagedAt shape journal at byte = (w : Where) × (notes : Option Notes) × HasReadSpool shape journal w notes × (IsChainDamage journal w at byte ⊎ IsWrongNext shape journal w notes at byte)

-- all records are read, and they say this
pub record HasAllNotes (shape : Shape) (journal : List ℕ) (notes : Option Notes) : Type 0 where
  pub w : Where
  pub header_is : w.start.header ≡ spool_header shape
  pub has : HasChain journal w
  pub say : Say shape None w.bodies notes

-- the front of Shares that is the file's
abbrev pub kept_file : Image → Notes → List ℕ
kept_file image notes = take notes.job.len (image Shares)

abbrev pub version_in : Image → Notes → FileVersion
version_in image notes = record { user = record { 0 = notes.job.user }; path = notes.job.path; number = record { 0 = notes.job.number }; file = kept_file image notes }

-- the noted lanes in the order of their numbers
abbrev pub rising : Shape → List CloudNo → List ℕ
rising shape lanes = filter (λ (cloud : ℕ). list_any (λ (lane : CloudNo). lane.0 == cloud) lanes) (range_with_len 0 shape.n)

-- what is answered of what is kept, where a spool is seen as its state and a job as its lanes
abbrev pub OpensSpoolIs : Shape → Image → Result (Option (SpoolState × List LaneView)) SpoolErr → Type 0
OpensSpoolIs shape image (Ok None) = IsUnbegun (image Journal) ⊎ HasAllNotes shape (image Journal) None
OpensSpoolIs shape image (Ok (Some x)) = (notes : Notes) × HasAllNotes shape (image Journal) (Some notes) × (length (kept_file image notes) ≡ notes.job.len)
    × (sha256_of (kept_file image notes) ≡ notes.job.digest) × (x.0.shape ≡ shape) × (x.0.noted ≡ notes.lanes) × IsOf x.0 (version_in image notes)
    × (x.1 ≡ lanes_resumed shape (version_in image notes) (rising shape notes.lanes))
OpensSpoolIs shape image (Err (OtherStore found asked)) = (half : ℕ) × HasHeader (image Journal) half found × (found ≢ spool_header shape) × (asked ≡ spool_header shape)
OpensSpoolIs shape image (Err (Damaged at byte)) = IsFoundDamage (image Journal) at byte ⊎ IsDamagedAt shape (image Journal) at byte
OpensSpoolIs shape image (Err (Rotten named found)) = (notes : Notes) × HasAllNotes shape (image Journal) (Some notes) × (named.0 ≡ notes.job.digest) × (found.0 ≡ sha256_of (kept_file image notes))
    × ((length (kept_file image notes) ≢ notes.job.len) ⊎ (found ≢ named))
OpensSpoolIs shape image (Err Fault) = Unit {0}
OpensSpoolIs shape image (Err NoMemory) = Unit {0}
OpensSpoolIs shape image (Err (NotEmpty area len)) = ⊥

-- what is answered of the spool of this version and these lanes: it, and the job that goes on; or a device call or memory failed
abbrev pub FindsAgain : Shape → FileVersion → List CloudNo → Result (Option (SpoolState × List LaneView)) SpoolErr
    → Type 0
FindsAgain shape v lanes (Ok (Some x)) = (x.0.shape ≡ shape) × (x.0.noted ≡ lanes) × IsOf x.0 v × (x.1 ≡ lanes_resumed shape v (rising shape lanes))
FindsAgain shape v lanes (Ok None) = ⊥
FindsAgain shape v lanes (Err Fault) = Unit {0}
FindsAgain shape v lanes (Err NoMemory) = Unit {0}
FindsAgain shape v lanes (Err (NotEmpty area len)) = ⊥
FindsAgain shape v lanes (Err (Damaged at byte)) = ⊥
FindsAgain shape v lanes (Err (OtherStore found asked)) = ⊥
FindsAgain shape v lanes (Err (Rotten named found)) = ⊥

-- what was opened, as its state and its lanes
abbrev pub answer_of : Result (Option (Spool × List LaneView)) SpoolErr → Result (Option (SpoolState × List LaneView)) SpoolErr
answer_of (Ok None) = Ok None
answer_of (Ok (Some x)) = Ok (Some (state_of x.0, x.1))
answer_of (Err e) = Err e

-- An opened spool of this shape is open, and keeps a version of a file whose job this is, with the noted lanes at their end.
pub record IsOpenedSpool (shape : Shape) (x : Spool × List LaneView) : Type 0 where
  pub shape_is : x.0.shape ≡ shape
  pub stage : (state_of x.0).journal.stage ≡ AtEnd
  pub v : FileVersion
  pub path : IsPath v.path
  pub few : length v.file ≤ file_limit
  pub of : IsOf (state_of x.0) v
  pub job_is : x.1 ≡ lanes_resumed shape v (rising shape x.0.noted.items)
