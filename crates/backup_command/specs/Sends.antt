-- What goes out on ports in a backup, whatever becomes of it: pieces of Hellos, and of the job's own requests, each on its cloud's port.
use Rattle.std.specs.Prelude.{◌≡◌, ◌⊎◌, ℕ, IsTrue, List, [], ◌∷◌, ◌++◌, map, Some}
use Rattle.std.specs.List.{Contains}
use Rattle.transcript.specs.CdBase.ids.CloudNo.{CloudNo}
use Rattle.transcript.specs.CdBase.shape.Shape.{Shape}
use Rattle.transcript.specs.CdEdges.Ports.{Telling}
use Rattle.ports_link.specs.Messages.request.Request.{Request}
use Rattle.ports_link.specs.Messages.request.Request.TheVariants as requests
use Rattle.ports_link.specs.Messages.Requests.{request_bytes}
use Rattle.ports_link.specs.declared.link.PortsLink.{PortsLink}
use Rattle.ports_link.specs.Lines.{line_of}
use Rattle.ports_link.specs.Hellos.{hello}
use Rattle.ports_link.specs.Sending.{SendsPieces, SendsOnly}
use Rattle.lane_steps.specs.UserDedup.Cloud.{fingerprint}
use Rattle.lane_steps.specs.UploadJob.Lane.{unflagged}
use Rattle.lane_steps.specs.UploadJob.Lanes.{LaneView, lanes_begun}
use Rattle.lane_steps.specs.UploadJob.Upload.{Work}
use Rattle.lane_steps.specs.Runs.{lane_at}
use Rattle.backup_command.specs.BackedUp.{BackupCall, Met, version_of}
use Rattle.backup_command.specs.Lanes.{numbered}
use Rattle.backup_command.specs.Reading.{Input, IsFileRead}

-- The request is one of a lane that has this to bring: it asks which shares of one of its batches the cloud has, brings some of them,
-- or enters its version.
pub data IsRequestOf (work : Work) : Request → Type 0 where
  AsksForBatch : (front rest : List (List (List ℕ))) (batch : List (List ℕ)) → work.batches ≡ front ++ batch ∷ rest
      → IsRequestOf work (requests.Query work.user (map fingerprint batch))
  BringsOfBatch : (front rest : List (List (List ℕ))) (batch : List (List ℕ)) (flags : List ℕ)
      → work.batches ≡ front ++ batch ∷ rest → IsRequestOf work (requests.Put work.user (unflagged batch flags))
  EntersVersion : IsRequestOf work (requests.Commit work.user work.tag work.version work.recipe)

-- the content of one of them
pub record IsAskOf (work : Work) (content : List ℕ) : Type 0 where
  pub request : Request
  pub own : IsRequestOf work request
  pub is : content ≡ request_bytes request

-- On each port nothing but pieces of frames was sent whose contents are so there: behind what had been sent there, or from its
-- opening on.
abbrev pub SendsOn : (ℕ → List ℕ → Type 0) → Telling → Telling → Type 0
SendsOn Is old new = (port : ℕ) → SendsPieces (Is port) (old.port port).sent (new.port port).sent
    ⊎ SendsPieces (Is port) [] (new.port port).sent

-- Pieces of frames of such contents were sent on the port of one cloud, and nothing on another.
abbrev pub SendsFor : {P : Type 0} → (P → Telling) → ℕ → (List ℕ → Type 0) → PortsLink P → PortsLink P → Type 0
SendsFor {P} tells cloud Is old new = IsTrue (tells old.ports.now).told → (port : ℕ)
    → (line_of old.lines.items.items cloud).port ≡ Some port
    → SendsOn (λ other content. (other ≡ port) × Is content) (tells old.ports.now) (tells new.ports.now)

-- the content is a request of the lane of a cloud that has this port
pub record IsAskOn (lines : List (CloudNo × ℕ)) (views : List LaneView) (port : ℕ) (content : List ℕ) : Type 0 where
  pub cloud : CloudNo
  pub on : Contains lines (cloud, port)
  pub asked : IsAskOf (lane_at views cloud.0).work content

-- Behind the Hellos nothing but pieces of the job's own requests was sent, those of each lane on its cloud's port alone.
pub record SendsLanes (call : BackupCall) (file : List ℕ) : Type 0 where
  pub dialled : List ℕ
  pub shape : Shape
  pub behind : Telling
  pub met : Met call dialled shape behind
  pub sends : SendsOn (IsAskOn (numbered 0 dialled) (lanes_begun shape (version_of call file))) behind call.after

-- Nothing but pieces of Hellos was sent; or all clouds replied as asked, and then nothing but pieces of the requests of this file's job.
abbrev pub SendsOwn : BackupCall → List ℕ → Type 0
SendsOwn call file = SendsOnly (λ content. content ≡ hello) call.before call.after ⊎ SendsLanes call file

-- The same of the file that the source has. Where it gives none, pieces of Hellos alone.
abbrev pub HasSentOwn : BackupCall → Input → Type 0
HasSentOwn call input = SendsOnly (λ content. content ≡ hello) call.before call.after
    ⊎ ((file : List ℕ) × IsFileRead input file × SendsLanes call file)
