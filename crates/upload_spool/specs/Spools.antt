-- What a spool stands for: a job that is kept at its client, and which of its lanes were noted as committed.
use Rattle.std.specs.Prelude.{◌≡◌, ◌⊎◌, ℕ, ◌<◌, ◌≤◌, ◌^◌, false, nat_eq, List, [], ◌∷◌, ◌++◌, length, map, take, All, slice_get, Some, None}
use Rattle.std.specs.List.{Contains, IsDistinct}
use Rattle.std.specs.Int.{w16, w32, w64, to_be_bytes}
use Rattle.sha2.specs.Sha256.{sha256 as sha256_of}
use Rattle.grammar.specs.CdBase.Limits.{IsPath, file_limit}
use Rattle.grammar.specs.CdBase.Numbers.{numbers_of}
use Rattle.grammar.specs.CdBase.ids.CloudNo.{CloudNo}
use Rattle.grammar.specs.CdBase.ids.UserId.{UserId}
use Rattle.grammar.specs.CdBase.ids.Version.{Version}
use Rattle.grammar.specs.CdBase.shape.Shape.{Shape}
use Rattle.commit_journal.specs.CdEdges.area.Area.TheVariants.{Journal, Shares}
use Rattle.commit_journal.specs.CdEdges.Disk.{Image}
use Rattle.commit_journal.specs.JournalStart.start.Header.{Header}
use Rattle.commit_journal.specs.JournalStart.start.Start.{Start}
use Rattle.commit_journal.specs.JournalStart.Ranges.{usual_rooms}
use Rattle.commit_journal.specs.JournalHalves.Halves.{is_half_begun}
use Rattle.commit_journal.specs.JournalHalves.Journals.{Where, HasChain, used_by}
use Rattle.upload_job.specs.Upload.{FileVersion}

-- Each field is in its range: a path has 1 to 1,024 bytes, none of them zero, and a file 67,108,864 at most.
pub record FitsFileVersion (v : FileVersion) : Type 0 where
  pub user : v.user.0 < 2 ^ 32
  pub number : v.number.0 < 2 ^ 64
  pub path : IsPath v.path
  pub few : length v.file ≤ file_limit

-- ---- the records' bodies

-- 1, the user, the version, the path with its length, the file's length and its SHA-256
abbrev pub job_fields : UserId → Version → List ℕ → ℕ → List ℕ → List ℕ
job_fields user number path len digest =
    1 ∷ (to_be_bytes w32 user.0 ++ (to_be_bytes w64 number.0 ++ (to_be_bytes w16 (length path) ++ (path ++ (to_be_bytes w64 len ++ digest)))))

abbrev pub job_bytes : FileVersion → List ℕ
job_bytes v = job_fields v.user v.number v.path (length v.file) (sha256_of v.file)

-- 2 and the cloud
abbrev pub lane_bytes : CloudNo → List ℕ
lane_bytes cloud = 2 ∷ cloud.0 ∷ []

-- ---- the chain

-- a spool's header: cloud 0 of the job's shape, in the usual rooms
abbrev pub spool_header : Shape → Header
spool_header shape = record { format = 2; shape = shape; cloud = record { 0 = 0 }; rooms = usual_rooms }

abbrev pub spool_start : Shape → Start
spool_start shape = record { header = spool_header shape; checkpoint = None }

-- half 0 with the job's record and one for each lane that was noted, in order
abbrev pub spool_chain : Shape → FileVersion → List CloudNo → Where
spool_chain shape v lanes = record { half = 0; start = spool_start shape; bodies = job_bytes v ∷ map lane_bytes lanes }

-- the most places of its half that a spool's chain may take
abbrev pub spool_limit : ℕ
spool_limit = 65536

-- They are different lanes of such a job: clouds below n.
pub record AreJobLanes (shape : Shape) (lanes : List CloudNo) : Type 0 where
  pub distinct : IsDistinct nat_eq (numbers_of lanes)
  pub below : All (λ cloud. cloud < shape.n) (numbers_of lanes)

-- Half 0 alone is begun, its records are the job and then different lanes in the order in which they were noted, and the
-- file's bytes lie in Shares from place 0 on.
pub record SpoolFor (image : Image) (shape : Shape) (v : FileVersion) (lanes : List CloudNo) : Type 0 where
  pub alone : is_half_begun 1 (image Journal) ≡ false
  pub has : HasChain (image Journal) (spool_chain shape v lanes)
  pub within : used_by (spool_chain shape v lanes) ≤ spool_limit
  pub apart : AreJobLanes shape lanes
  pub file : take (length v.file) (image Shares) ≡ v.file

-- ---- an open job

-- A record that is open is a job's.
pub record HasOpenJob (journal : List ℕ) : Type 0 where
  pub w : Where
  pub has : HasChain journal w
  pub body : List ℕ
  pub there : Contains w.bodies body
  pub kind : slice_get body 0 ≡ Some 1

-- no job is open, or this one, with no lane noted
abbrev pub IsBegunOr : Shape → FileVersion → Image → Type 0
IsBegunOr shape v image = (¬ (HasOpenJob (image Journal))) ⊎ SpoolFor image shape v []

-- the lanes that were noted before, or those and one more
abbrev pub IsNotedOr : Shape → FileVersion → List CloudNo → CloudNo → Image → Type 0
IsNotedOr shape v lanes lane image = SpoolFor image shape v lanes ⊎ SpoolFor image shape v (lanes ++ lane ∷ [])
