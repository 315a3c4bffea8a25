-- A cloud of a shelf as one that users ask: its list, and the command that may be there or not.
use Rattle.std.specs.Prelude.{◌≡◌, ◌⊎◌, List, [], ◌∷◌, ◌++◌, Some}
use Rattle.journal_halves.specs.CdEdges.Disk.{Cloud, Image, IsImage, LeavesOnly}
use Rattle.journal_halves.specs.JournalStart.start.Header.{Header}
use Rattle.user_dedup.specs.Messages.request.Request.{Request}
use Rattle.user_dedup.specs.declared.command.Command.{Command}
use Rattle.user_dedup.specs.Dedup.{Outcome}
use Rattle.user_dedup.specs.Exec.{Peer, MaySettleAs}
use Rattle.cloud_areas.specs.Standing.{StandsFor}

-- this image stands for a list of which this is said
abbrev pub StandsForSome : Header → (List Command → Type 0) → Image → Type 0
StandsForSome header P image = (list : List Command) × P list × StandsFor image header list

-- each image now stands for a list of which this is said
abbrev pub ImagesNow : Cloud → Header → (List Command → Type 0) → Type 0
ImagesNow cloud header P = (image : Image) → IsImage cloud.now image → StandsForSome header P image

-- each image since the old state of the cloud does
abbrev pub ImagesSince : Cloud → Cloud → Header → (List Command → Type 0) → Type 0
ImagesSince old new header P = LeavesOnly old new (StandsForSome header P)

-- Each image now stands for the peer's list, or for it with its pending command; the counts are the cloud's.
pub record StandsAs (cloud : Cloud) (header : Header) (p : Peer) : Type 0 where
  pub images : ImagesNow cloud header (MaySettleAs p)
  pub faults : p.faults ≡ cloud.faults
  pub armings : p.armings ≡ cloud.armings

-- a list that the peer may settle as, or that list with the command that the request adds to it
abbrev pub MayBecome : (List Command → Request → Outcome) → Peer → Request → List Command → Type 0
MayBecome serve p request list = MaySettleAs p list ⊎ ((before : List Command) × (command : Command)
    × MaySettleAs p before × ((serve before request).adds ≡ Some command) × (list ≡ before ++ command ∷ []))
