-- What a session promises: of acknowledged versions, of the disks after a crash, and of what a user is told.
use Rattle.std.specs.Prelude.{◌≡◌, ℕ, ◌<◌, IsTrue, Bool, false, ◌⊎◌, List, [], ◌∷◌, ◌++◌, reverse, Option, Some, None, IfSome, MatchOption, if◌then◌else◌}
use Rattle.std.specs.List.{Contains}
use Rattle.session.specs.CdBase.shape.Shape.{Shape}
use Rattle.session.specs.CdEdges.Causes.{Rose}
use Rattle.session.specs.CdEdges.Disk.{Cloud, Image, IsImage, IsImageSince, moment}
use Rattle.rebuild.specs.Messages.request.Request.{Request}
use Rattle.rebuild.specs.Messages.reply.Reply.{Reply}
use Rattle.rebuild.specs.Messages.reply.Reply.TheVariants as replies
use Rattle.subset_restore.specs.UserDedup.command.Command.{Command}
use Rattle.subset_restore.specs.UserDedup.Cloud.{user_view}
use Rattle.subset_restore.specs.UserDedup.Dedup.{answer_by_view}
use Rattle.subset_restore.specs.UserDedup.Requests.{asker}
use Rattle.subset_restore.specs.UserDedup.Exec.{Peer, MaySettleAs}
use Rattle.local_link.specs.CloudAreas.Standing.{StandsFor}
use Rattle.local_link.specs.ShareServer.Names.{header_of}
use Rattle.rebuild.specs.UploadJob.Upload.{FileVersion}
use Rattle.subset_restore.specs.RestoreJob.Restored.{recipe_in}
use Rattle.subset_restore.specs.Subsets.{IsSubset}
use Rattle.rebuild.specs.KeptFiles.Kept.{Keeps, key_of}
use Rattle.session.specs.Scripts.{AreLines}
use Rattle.session.specs.declared.event.Event.{Event}
use Rattle.session.specs.declared.event.Event.TheVariants as events
use Rattle.session.specs.Transcript.refusal.Refusal.TheVariants as refusals
use Rattle.session.specs.Transcript.line.Line.{Line}
use Rattle.session.specs.Transcript.line.Line.TheVariants as lines
use Rattle.session_model.specs.Vault.{Setting, Vault, opening}
use Rattle.session_model.specs.Steps.{Moment, VStep}
use Rattle.session_model.specs.Run.{Answered, Turns, script_of, moments_of, answers_of, IsListIn}
use Rattle.session_model.specs.Kept.{EndsKept, IsVersionKept, Clash, NamesClash}

-- a line that was begun and not answered: what has passed of it
pub record Begun : Type 0 where
  pub event : Event
  pub moments : List Moment

-- a session as far as it was carried out
pub record Session : Type 0 where
  pub setting : Setting
  pub opened : Bool
  pub history : List Answered
  pub between : Vault  -- after the last line that was answered
  pub begun : Option Begun
  pub last : ℕ → Peer  -- the clouds in the last state

-- the clouds as at the next moment, or as the line leaves them
abbrev pub ComesTo : List Moment → (ℕ → Peer) → (ℕ → Peer) → Type 0
ComesTo [] after last = last ≡ after
ComesTo (m ∷ rest) after last = last ≡ m.peers

-- some step of the line begins with these moments, and comes to this state behind them
abbrev pub IsPartOf : Setting → Vault → Begun → (ℕ → Peer) → Type 0
IsPartOf s old b last =
    (answers : List Line) × (rest : List Moment) × (after : Vault)
    × VStep s old b.event answers (b.moments ++ rest) after × ComesTo rest after.peers last

abbrev pub event_of : Option Begun → List Event
event_of None = []
event_of (Some b) = b.event ∷ []

abbrev pub moments_begun : Option Begun → List Moment
moments_begun None = []
moments_begun (Some b) = b.moments

-- every line that was begun
abbrev pub script_in : Session → List Event
script_in run = script_of run.history ++ event_of run.begun

abbrev pub moments_in : Session → List Moment
moments_in run = moments_of run.history ++ moments_begun run.begun

-- The lines were answered so, over clouds that began with no commands and with these counts.
pub record IsRun (clouds : ℕ → Cloud) (run : Session) : Type 0 where
  pub unopened : run.opened ≡ false → (run.history ≡ []) × (run.begun ≡ None)
  pub lines : AreLines run.setting.shape 0 (script_in run)
  pub answered : Turns run.setting (opening clouds) run.history run.between
  pub begun : MatchOption run.begun (run.last ≡ run.between.peers) (λ b. IsPartOf run.setting run.between b run.last)

-- the lines that are due; none before the clouds are opened
abbrev pub due : Session → List Line
due run = (if run.opened then lines.Opened run.setting.shape ∷ [] else []) ++ answers_of run.history

-- ---- acknowledged versions

-- two different strings that the session dispersed to one cloud share a SHA-256, or two different name packages do
abbrev pub Clashes : Session → Type 0
Clashes run = Clash run.setting.shape (script_in run) (moments_in run) run.last ⊎ NamesClash run.setting.shape (script_in run)

-- the file's bytes, or a fault of one of the clouds, whose count rose at this line
abbrev pub GivesVersion : List ℕ → FileVersion → Answered → List Line → Type 0
GivesVersion clouds v a (lines.Got bytes ∷ []) = bytes ≡ v.file
GivesVersion clouds v a (lines.Refused (refusals.Fault cloud) ∷ []) =
    Contains clouds cloud.0 × Rose (a.before.peers cloud.0).faults (a.after.peers cloud.0).faults
GivesVersion clouds v a answers = ⊥

-- Each get from k or more clouds that acknowledged a version gives its bytes.
abbrev pub GivesAcknowledged : Session → Type 0
GivesAcknowledged run =
    (earlier later : List Answered) (a : Answered) (clouds : List ℕ) (v : FileVersion)
    → run.history ≡ earlier ++ a ∷ later → a.event ≡ events.Get v.user v.path v.number clouds
    → ((cloud : ℕ) → Contains clouds cloud → IsVersionKept run.setting (reverse earlier) cloud v)
    → ¬ Clashes run
    → GivesVersion clouds v a a.answers

-- The cloud is told, and has no entry of the version, in its list or by its pending command.
pub record Lacks (s : Setting) (cloud : ℕ) (p : Peer) (v : FileVersion) : Type 0 where
  pub told : IsTrue (s.told cloud)
  pub none : (list : List Command) → MaySettleAs p list
      → recipe_in s.shape list v.user (key_of s.shape v.path v.number) ≡ None

-- the file's bytes; or a refusal, where each k of the clouds that acknowledged the version have one whose count rose at
-- this line
abbrev pub GivesFromSome : Shape → (ℕ → Type 0) → List ℕ → FileVersion → Answered → List Line → Type 0
GivesFromSome shape KeptAt clouds v a (lines.Got bytes ∷ []) = bytes ≡ v.file
GivesFromSome shape KeptAt clouds v a (lines.Refused why ∷ []) =
    (chosen : List ℕ) → IsSubset shape.k clouds chosen → ((cloud : ℕ) → Contains chosen cloud → KeptAt cloud)
    → (cloud : ℕ) × Contains chosen cloud × Rose (a.before.peers cloud).faults (a.after.peers cloud).faults
GivesFromSome shape KeptAt clouds v a answers = ⊥

-- Each get from k or more clouds, of which some acknowledged a version and the others have no entry of it, gives its
-- bytes.
abbrev pub GivesFromMore : Session → Type 0
GivesFromMore run =
    (earlier later : List Answered) (a : Answered) (clouds : List ℕ) (v : FileVersion)
    → run.history ≡ earlier ++ a ∷ later → a.event ≡ events.Get v.user v.path v.number clouds
    → ((cloud : ℕ) → Contains clouds cloud
    → IsVersionKept run.setting (reverse earlier) cloud v ⊎ Lacks run.setting cloud (a.before.peers cloud) v)
    → ¬ Clashes run
    → GivesFromSome run.setting.shape
    (λ cloud. IsVersionKept run.setting (reverse earlier) cloud v) clouds v a a.answers

-- Behind the last line that was begun the cloud keeps what it acknowledged.
pub record StillKept (run : Session) (cloud : ℕ) (v : FileVersion) : Type 0 where
  pub kept : IsVersionKept run.setting (reverse run.history) cloud v
  pub lasts : (event : Event) → Contains (event_of run.begun) event → ¬ EndsKept cloud v event

-- Every disk that a crash may now leave keeps each acknowledged version.
abbrev pub DisksKeep : Session → (ℕ → Cloud) → Type 0
DisksKeep run clouds =
    (cloud : ℕ) (v : FileVersion) (image : Image) (list : List Command)
    → cloud < run.setting.shape.n
    → StillKept run cloud v
    → ¬ Clashes run
    → IsImage (clouds cloud).now image → MaySettleAs (run.last cloud) list
    → StandsFor image (header_of run.setting.shape run.setting.rooms cloud) list
    → Keeps run.setting.shape cloud list v.user v.path v.number v.file

-- ---- disks

-- A crash now leaves the list of the last state, or that with its pending command; one at an earlier moment that of some
-- state.
pub record StandsForRun (run : Session) (old new : ℕ → Cloud) (cloud : ℕ) : Type 0 where
  pub now : (image : Image) → IsImage (new cloud).now image →
      (list : List Command) × MaySettleAs (run.last cloud) list
      × StandsFor image (header_of run.setting.shape run.setting.rooms cloud) list
  pub each : (image : Image) → IsImageSince (new cloud) (moment (old cloud)) image →
      (list : List Command) × IsListIn run.setting cloud (moments_in run) run.last list
      × StandsFor image (header_of run.setting.shape run.setting.rooms cloud) list

abbrev pub DisksStand : Session → (ℕ → Cloud) → (ℕ → Cloud) → Type 0
DisksStand run old new =
    (cloud : ℕ) → cloud < run.setting.shape.n → IsTrue (run.setting.told cloud) → StandsForRun run old new cloud

-- ---- what a user is told

-- the replies that speak of the asking user's own commands alone
abbrev pub IsOwnReply : Reply → Type 0
IsOwnReply (replies.Known flags) = Unit {0}
IsOwnReply (replies.Stored new) = Unit {0}
IsOwnReply replies.Committed = Unit {0}
IsOwnReply replies.Exists = Unit {0}
IsOwnReply (replies.Lacking place) = Unit {0}
IsOwnReply replies.Deleted = Unit {0}
IsOwnReply replies.Missing = Unit {0}
IsOwnReply reply = ⊥

-- the reply by the asking user's view, with no string of anyone at hand
abbrev pub own_reply : Shape → ℕ → List Command → Request → Reply
own_reply shape cloud list request =
    (answer_by_view shape cloud (user_view shape list (asker request)) (λ fp. None) request).reply

abbrev pub IsPrivate : Setting → Moment → Type 0
IsPrivate s m = IfSome m.event (λ e. IsTrue (s.told e.cloud) → IsOwnReply e.reply →
    (list : List Command) × MaySettleAs (m.peers e.cloud) list × (e.reply ≡ own_reply s.shape e.cloud list e.request))

abbrev pub AnswersPrivately : Session → Type 0
AnswersPrivately run = (m : Moment) → Contains (moments_in run) m → IsPrivate run.setting m
