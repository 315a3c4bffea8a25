-- Which versions of files were acknowledged, and when two strings or two names clash.
use Rattle.std.specs.Prelude.{◌≡◌, ◌≢◌, ℕ, ◌+◌, ◌<◌, ◌⊎◌, IsTrue, List, [], ◌∷◌, reverse, slice_get, Some}
use Rattle.std.specs.List.{Contains, flat_map}
use Rattle.session.specs.CdBase.shape.Shape.{Shape}
use Rattle.subset_restore.specs.CaontRs.Package.{package_of, tag}
use Rattle.subset_restore.specs.UserDedup.Cloud.{fingerprint, strings_in}
use Rattle.subset_restore.specs.UserDedup.Exec.{Peer}
use Rattle.rebuild.specs.UploadJob.Upload.{FileVersion, shares_for}
use Rattle.rebuild.specs.KeptFiles.Kept.{key_of}
use Rattle.session.specs.declared.event.Event.{Event}
use Rattle.session.specs.declared.event.Event.TheVariants as events
use Rattle.session.specs.Transcript.line.Line.{Line}
use Rattle.session.specs.Transcript.line.SkipWord.{SkipWord}
use Rattle.session.specs.Transcript.line.Line.TheVariants as lines
use Rattle.session.specs.Transcript.news.News.TheVariants as news
use Rattle.session_model.specs.Vault.{Setting}
use Rattle.session_model.specs.Steps.{Moment, cloud_no, version_of}
use Rattle.session_model.specs.Run.{Answered, script_of}

abbrev pub upload_of : Event → List FileVersion
upload_of (events.Upload user path version bytes) = version_of user path version bytes ∷ []
upload_of (events.Step job lane) = []
upload_of (events.Lose job lane) = []
upload_of (events.Drop job lane) = []
upload_of (events.Finish job) = []
upload_of (events.Get user path version clouds) = []
upload_of (events.Arm cloud calls keep) = []
upload_of (events.Restart cloud) = []
upload_of (events.List user cloud) = []
upload_of (events.Replace cloud) = []
upload_of (events.Rebuild user target from) = []
upload_of (events.Delete user path version cloud) = []

-- the versions of the jobs, in order
abbrev pub uploads : List Event → List FileVersion
uploads script = flat_map upload_of script

-- job J, counted from 1, is the upload of this version
abbrev pub IsJobNumberOf : List Event → ℕ → FileVersion → Type 0
IsJobNumberOf script job v = (place : ℕ) × (job ≡ place + 1) × (slice_get (uploads script) place ≡ Some v)

-- an answer says that the cloud committed a job of this version
abbrev pub SaysCommitted : List Event → ℕ → FileVersion → List Line → Type 0
SaysCommitted script cloud v answers =
    (job : ℕ) × IsJobNumberOf script job v × Contains answers (lines.Step job (cloud_no cloud) news.Committed)

-- The line ends what the cloud keeps of the version: the cloud is replaced, or the version is deleted there, whatever is
-- answered.
abbrev pub EndsKept : ℕ → FileVersion → Event → Type 0
EndsKept cloud v (events.Replace replaced) = replaced.0 ≡ cloud
EndsKept cloud v (events.Delete user path version from) =
    (from.0 ≡ cloud) × (user ≡ v.user) × (path ≡ v.path) × (version ≡ v.number)
EndsKept cloud v event = ⊥

-- The answer says that the cloud was rebuilt for the version's user, and that the version wasn't skipped, from clouds that each
-- had it acknowledged.
pub record SaysRebuilt (shape : Shape) (KeptAt : ℕ → Type 0) (cloud : ℕ) (v : FileVersion) (a : Answered) : Type 0 where
  pub from : List ℕ
  pub event_is : a.event ≡ events.Rebuild v.user (cloud_no cloud) from
  pub files : ℕ
  pub skipped : ℕ
  pub skips : List Line
  pub answers_are : a.answers ≡ lines.Rebuilt v.user (cloud_no cloud) files skipped ∷ skips
  pub brought : (why : SkipWord) → ¬ Contains skips (lines.Skipped (key_of shape v.path v.number).0 v.number why)
  pub kept : (source : ℕ) → Contains from source → KeptAt source

-- The answered lines, the newest first: the cloud acknowledged the version, and no line since ended that. All clouds that
-- this goes back to are told.
abbrev pub IsVersionKept : Setting → List Answered → ℕ → FileVersion → Type 0
IsVersionKept s [] cloud v = ⊥
IsVersionKept s (a ∷ earlier) cloud v =
    IsTrue (s.told cloud) × (SaysCommitted (script_of (reverse earlier)) cloud v a.answers
    ⊎ (SaysRebuilt s.shape (λ source. IsVersionKept s earlier source v) cloud v a
    ⊎ (IsVersionKept s earlier cloud v × ¬ EndsKept cloud v a.event)))

-- ---- clashes

-- a string is dispersed to the cloud by an upload of these lines, or put there by one of these moments or in the end
abbrev pub IsDispersed : Shape → List Event → List Moment → (ℕ → Peer) → ℕ → List ℕ → Type 0
IsDispersed shape script moments last cloud string =
    ((v : FileVersion) × Contains (uploads script) v × Contains (shares_for shape cloud v.file) string)
    ⊎ (((m : Moment) × Contains moments m × Contains (strings_in (m.peers cloud).list) string)
    ⊎ Contains (strings_in (last cloud).list) string)

-- two different strings that are dispersed to one cloud share a SHA-256
pub record Clash (shape : Shape) (script : List Event) (moments : List Moment) (last : ℕ → Peer) : Type 0 where
  pub cloud : ℕ
  pub below : cloud < shape.n
  pub one : List ℕ
  pub other : List ℕ
  pub first : IsDispersed shape script moments last cloud one
  pub second : IsDispersed shape script moments last cloud other
  pub different : one ≢ other
  pub same : fingerprint one ≡ fingerprint other

-- the path that a line names, if it names one
abbrev pub paths_of : Event → List (List ℕ)
paths_of (events.Upload user path version bytes) = path ∷ []
paths_of (events.Get user path version clouds) = path ∷ []
paths_of (events.Delete user path version cloud) = path ∷ []
paths_of event = []

-- a line of the script names the path
abbrev pub NamesPath : List Event → List ℕ → Type 0
NamesPath script path = Contains (flat_map paths_of script) path

-- two different name packages of the script's paths share a SHA-256
pub record NamesClash (shape : Shape) (script : List Event) : Type 0 where
  pub one : List ℕ
  pub other : List ℕ
  pub first : NamesPath script one
  pub second : NamesPath script other
  pub different : package_of shape one ≢ package_of shape other
  pub same : tag shape one ≡ tag shape other
