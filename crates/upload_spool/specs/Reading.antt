-- What reading a spool's records gives: fields from left to right. A reader's fault is how many bytes are left from the first
-- wrong place on, and so 0 where a field lacks bytes.
use Rattle.std.specs.Prelude.{ℕ, zero, suc, ◌-◌, ◌==◌, ◌&&◌, not, Bool, List, [], ◌∷◌, length, slice_index, Some, Result, Ok, Err, nat_le, nat_lt}
use Rattle.std.specs.List.{list_all, list_any}
use Rattle.std.specs.Int.{w16, w32, w64}
use Rattle.grammar.specs.CdBase.Limits.{path_limit, file_limit}
use Rattle.grammar.specs.CdBase.ids.CloudNo.{CloudNo}
use Rattle.grammar.specs.CdBase.shape.Shape.{Shape}
use Rattle.grammar.specs.Readers.{◌▷◌, ◌▷▷◌}
use Rattle.grammar.specs.Fields.{number_at, bytes_at, checked}
use Rattle.upload_job.specs.MessageFields.Parts.{made, kept, byte_as}
use Rattle.upload_job.specs.Upload.{FileVersion}
use Rattle.sha2.specs.Sha256.{sha256 as sha256_of}
use Rattle.upload_spool.specs.declared.records.JobRecord.{JobRecord}
use Rattle.upload_spool.specs.declared.records.RecordFault.{RecordFault}
use Rattle.upload_spool.specs.declared.records.RecordFault.TheVariants as faults

-- what a job's record says
pub record JobFields : Type 0 where
  pub user : ℕ
  pub number : ℕ
  pub path : List ℕ
  pub len : ℕ
  pub digest : List ℕ

-- what was read
abbrev pub fields_of : JobRecord → JobFields
fields_of job = record { user = job.user.0; number = job.version.0; path = job.path.now; len = job.len; digest = job.digest.0 }

-- what a version's record is to say
abbrev pub fields_for : FileVersion → JobFields
fields_for v = record { user = v.user.0; number = v.number.0; path = v.path; len = length v.file; digest = sha256_of v.file }

-- a byte
abbrev pub one_byte : List ℕ → Result (ℕ × List ℕ) ℕ
one_byte = byte_as Some

abbrev pub is_kind : ℕ → ℕ → Bool
is_kind kind byte = byte == kind

abbrev pub is_path_len : ℕ → Bool
is_path_len n = nat_le 1 n && nat_le n path_limit

abbrev pub has_no_zero : List ℕ → Bool
has_no_zero path = list_all (λ byte. not (byte == 0)) path

abbrev pub is_file_len : ℕ → Bool
is_file_len n = nat_le n file_limit

-- a cloud below n that wasn't noted
abbrev pub is_lane : Shape → List CloudNo → ℕ → Bool
is_lane shape noted cloud = nat_lt cloud shape.n && not (list_any (λ (lane : CloudNo). lane.0 == cloud) noted)

-- the length of a path, and the path; one with a zero is wrong at its first place
unfoldable pub path_at : List ℕ → Result (List ℕ × List ℕ) ℕ
path_at = made (λ x. x.1) (checked is_path_len (number_at w16) ▷▷ λ n. kept has_no_zero (bytes_at n))

abbrev pub make_job : ℕ × (ℕ × (ℕ × (List ℕ × (ℕ × List ℕ)))) → JobFields
make_job x = record { user = x.1.0; number = x.1.1.0; path = x.1.1.1.0; len = x.1.1.1.1.0; digest = x.1.1.1.1.1 }

unfoldable pub job_at : List ℕ → Result (JobFields × List ℕ) ℕ
job_at = made make_job (kept (is_kind 1) one_byte ▷ (number_at w32 ▷ (number_at w64 ▷ (path_at ▷ (checked is_file_len (number_at w64) ▷ bytes_at 32)))))

unfoldable pub lane_at : Shape → List CloudNo → List ℕ → Result (ℕ × List ℕ) ℕ
lane_at shape noted = made (λ x. x.1) (kept (is_kind 2) one_byte ▷ kept (is_lane shape noted) one_byte)

-- ---- all the bytes of a body

-- the byte from which on so many are left
abbrev pub wrong_at : List ℕ → ℕ → RecordFault
wrong_at bytes left = faults.Wrong (length bytes - left) (slice_index bytes (length bytes - left))

-- the answer for all the bytes; one that is left over is wrong
abbrev pub judged : {A : Type 0} → List ℕ → Result (A × List ℕ) ℕ → Result A RecordFault
judged bytes (Ok (x, [])) = Ok x
judged bytes (Ok (x, byte ∷ rest)) = Err (wrong_at bytes (length (byte ∷ rest)))
judged bytes (Err zero) = Err faults.Short
judged bytes (Err (suc left)) = Err (wrong_at bytes (suc left))

-- what a job's body says, or the first thing that is wrong
abbrev pub job_in : List ℕ → Result JobFields RecordFault
job_in body = judged body (job_at body)

-- the cloud of a lane's body, behind those that were noted, or the first thing that is wrong
abbrev pub lane_in : Shape → List CloudNo → List ℕ → Result ℕ RecordFault
lane_in shape noted body = judged body (lane_at shape noted body)
