-- The clouds and the jobs of a session: lists of whole commands, and lanes; and what one request does there.
use Rattle.std.specs.Prelude.{◌≡◌, ◌≢◌, ℕ, zero, suc, ◌-◌, ◌==◌, Bool, List, [], ◌∷◌, if◌then◌else◌}
use Rattle.session.specs.JournalStart.rooms.UserRooms.{UserRooms}
use Rattle.session.specs.CdBase.shape.Shape.{Shape}
use Rattle.session.specs.CdEdges.Disk.{Cloud}
use Rattle.rebuild.specs.Messages.request.Request.{Request}
use Rattle.rebuild.specs.Messages.reply.Reply.{Reply}
use Rattle.subset_restore.specs.UserDedup.command.Command.{Command}
use Rattle.subset_restore.specs.UserDedup.Dedup.{Outcome}
use Rattle.subset_restore.specs.UserDedup.Exec.{Peer, Exec}
use Rattle.subset_restore.specs.UserDedup.Served.{served_by}
use Rattle.rebuild.specs.UploadJob.Upload.{FileVersion}
use Rattle.rebuild.specs.UploadJob.Lanes.{LaneView, lanes_begun}
use Rattle.rebuild.specs.LaneSteps.Runs.{LaneTurn}
use Rattle.local_link.specs.Calls.{no_commands}

-- what holds for a whole session. A cloud is told where its disk returns what was written
pub record Setting : Type 0 where
  pub shape : Shape
  pub rooms : UserRooms
  pub told : ℕ → Bool

-- what a cloud serves by its list
abbrev pub served_at : Setting → ℕ → List Command → Request → Outcome
served_at s cloud = served_by s.rooms s.shape cloud

-- a job: the version that it brings to the clouds, and its lanes
pub record JobState : Type 0 where
  pub version : FileVersion
  pub lanes : List LaneView

-- the clouds by their numbers, and the jobs in the order of their uploads
pub record Vault : Type 0 where
  pub peers : ℕ → Peer
  pub jobs : List JobState

abbrev pub new_job : Setting → FileVersion → JobState
new_job s v = record { version = v; lanes = lanes_begun s.shape v }

-- before the first line: no commands, the counts of the clouds, and no jobs
abbrev pub opening : (ℕ → Cloud) → Vault
opening clouds = record { peers = λ cloud. no_commands (clouds cloud); jobs = [] }

-- the lanes of the job at this place
abbrev pub lanes_at : List JobState → ℕ → List LaneView
lanes_at [] place = []
lanes_at (j ∷ jobs) zero = j.lanes
lanes_at (j ∷ jobs) (suc place) = lanes_at jobs place

-- the jobs, that at this place with other lanes
abbrev pub with_lanes_at : List JobState → ℕ → List LaneView → List JobState
with_lanes_at [] place lanes = []
with_lanes_at (j ∷ jobs) zero lanes = record { version = j.version; lanes = lanes } ∷ jobs
with_lanes_at (j ∷ jobs) (suc place) lanes = j ∷ with_lanes_at jobs place lanes

-- jobs are numbered from 1
abbrev pub lanes_of : List JobState → ℕ → List LaneView
lanes_of jobs job = lanes_at jobs (job - 1)

abbrev pub with_lanes : List JobState → ℕ → List LaneView → List JobState
with_lanes jobs job lanes = with_lanes_at jobs (job - 1) lanes

-- One cloud executes a request, and the others are as they were.
pub record HasVaultExecuted (s : Setting) (cloud : ℕ) (old : ℕ → Peer) (request : Request) (reply : Reply)
    (new : ℕ → Peer)
    : Type 0 where
  pub does : Exec s.shape (s.told cloud) (served_at s cloud) (old cloud) request reply (new cloud)
  pub others : (other : ℕ) → other ≢ cloud → new other ≡ old other

-- One cloud goes on so, and the others are as they were.
pub record OneGoes (cloud : ℕ) (Goes : Peer → Peer → Type 0) (old new : ℕ → Peer) : Type 0 where
  pub goes : Goes (old cloud) (new cloud)
  pub others : (other : ℕ) → other ≢ cloud → new other ≡ old other

-- the clouds, this one as this peer
abbrev pub with_peer : (ℕ → Peer) → ℕ → Peer → ℕ → Peer
with_peer peers cloud p other = if other == cloud then p else peers other

-- One cloud executes these requests, one after another, with these replies.
abbrev pub ExecutesAll : Setting → ℕ → Peer → List (LaneTurn Peer) → Peer → Type 0
ExecutesAll s cloud old [] new = new ≡ old
ExecutesAll s cloud old (t ∷ turns) new =
    (t.before ≡ old)
    × ((mid : Peer) × Exec s.shape (s.told cloud) (served_at s cloud) old t.request t.reply mid × ExecutesAll s cloud mid turns new)
