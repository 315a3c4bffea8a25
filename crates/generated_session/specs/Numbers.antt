-- The numbers of a session, and the summary that has them.
use Rattle.std.specs.Prelude.{◌≡◌, ◌⊎◌, ℕ, ◌+◌, List, [], ◌∷◌, ◌++◌, length, sum_by, codes, decimal}
use Rattle.std.specs.List.{Contains}
use Rattle.lane_steps.specs.UploadJob.Upload.{FileVersion}
use Rattle.replay_core.specs.Session.event.Event.{Event}
use Rattle.replay_core.specs.Session.event.Event.TheVariants as events
use Rattle.subset_restore.specs.Transcript.Transcript.{ended}
use Rattle.subset_restore.specs.Transcript.line.Line.{Line}
use Rattle.subset_restore.specs.Transcript.line.Line.TheVariants as lines
use Rattle.subset_restore.specs.Transcript.news.News.TheVariants as news
use Rattle.replay_core.specs.SessionModel.Steps.{version_of}
use Rattle.replay_core.specs.SessionModel.Kept.{uploads}
use Rattle.replay_core.specs.SessionModel.Run.{Answered, script_of, answers_of}
use Rattle.generated_session.specs.declared.numbers.Numbers.{Numbers}

-- ---- what a line of the transcript counts

-- a job was stored
abbrev pub stored_in : Line → ℕ
stored_in (lines.JobStored job) = 1
stored_in line = 0

-- so many shares were sent
abbrev pub sent_in : Line → ℕ
sent_in (lines.Step job lane (news.Stored new sent)) = sent
sent_in line = 0

-- so many shares were known
abbrev pub known_in : Line → ℕ
known_in (lines.Step job lane (news.Known known asked)) = known
known_in line = 0

-- ---- what a get gave

-- it is a get, which gave the bytes that were uploaded as this version
abbrev pub GivesUploaded : List FileVersion → Event → List Line → Type 0
GivesUploaded files (events.Get user path version clouds) (lines.Got bytes ∷ []) =
    Contains files (version_of user path version bytes)
GivesUploaded files event answers = ⊥

-- so many of these are such
abbrev pub CountsSuch : {A : Type 0} → (A → Type 0) → List A → ℕ → Type 0
CountsSuch P [] count = count ≡ 0
CountsSuch P (x ∷ xs) count =
    (P x × ((rest : ℕ) × (count ≡ rest + 1) × CountsSuch P xs rest)) ⊎ ((¬ P x) × CountsSuch P xs count)

-- ---- all of them

-- the lengths of the files in all
abbrev pub bytes_in : List FileVersion → ℕ
bytes_in files = sum_by (λ (v : FileVersion). length v.file) files

-- The numbers are those of these answered lines, where these files were to be uploaded.
pub record HasNumbers (files : List FileVersion) (history : List Answered) (n : Numbers) : Type 0 where
  pub bytes : n.bytes ≡ bytes_in (uploads (script_of history))
  pub stored : n.stored ≡ sum_by stored_in (answers_of history)
  pub sent : n.sent ≡ sum_by sent_in (answers_of history)
  pub known : n.known ≡ sum_by known_in (answers_of history)
  pub equal : CountsSuch (λ (a : Answered). GivesUploaded files a.event a.answers) history n.equal

-- ---- the summary

abbrev pub number_line : List ℕ → ℕ → List ℕ
number_line name number = ended (name ∷ decimal number ∷ [])

-- the six lines, of so many files
unfoldable pub summary_text : ℕ → Numbers → List ℕ
summary_text files n =
    number_line (codes "files") files ++ number_line (codes "bytes") n.bytes
    ++ number_line (codes "stored") n.stored ++ number_line (codes "sent") n.sent
    ++ number_line (codes "known") n.known ++ number_line (codes "equal") n.equal
