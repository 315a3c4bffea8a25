-- What the calls of the link do to a cloud's peer.
use Rattle.std.specs.Prelude.{◌≡◌, ◌⊎◌, ℕ, ◌+◌, ◌-◌, ◌^◌, min, IsTrue, List, [], None, Result, Ok, Err}
use Rattle.share_server.specs.JournalStart.rooms.UserRooms.{UserRooms}
use Rattle.share_server.specs.CdBase.shape.Shape.{Shape}
use Rattle.share_server.specs.CdEdges.area.Area.{Area}
use Rattle.share_server.specs.CdEdges.stream.Failed.{Failed}
use Rattle.share_server.specs.CdEdges.Causes.{Rose}
use Rattle.share_server.specs.CdEdges.Disk.{Cloud, Image, IsImage, LeavesOnly}
use Rattle.share_server.specs.UserDedup.command.Command.{Command}
use Rattle.share_server.specs.UserDedup.Exec.{Peer, MaySettleAs, KeepsPeer, StandsSound}
use Rattle.share_server.specs.UserDedup.Spending.{IsWithin}
use Rattle.share_server.specs.CloudAreas.Peers.{ImagesNow}
pub use Rattle.share_server.specs.Names.{header_of}

-- A cloud may be served as this peer, in these rooms: its counts are the peer's, and where it is told each image now stands for a list that
-- the peer may settle as, all of which are sound and within the rooms.
pub record MayServe (shape : Shape) (number : ℕ) (rooms : UserRooms) (cloud : Cloud) (p : Peer) : Type 0 where
  pub faults : p.faults ≡ cloud.faults
  pub armings : p.armings ≡ cloud.armings
  pub images : IsTrue cloud.told → ImagesNow cloud (header_of shape rooms number) (MaySettleAs p)
  pub within : IsTrue cloud.told → (list : List Command) → MaySettleAs p list → IsWithin shape rooms list
  pub sound : IsTrue cloud.told → StandsSound shape number p

-- the peer of no commands, with the cloud's counts
abbrev pub no_commands : Cloud → Peer
no_commands cloud = record { list = []; pending = None; faults = cloud.faults; armings = cloud.armings }

-- After Ok the peer has no commands, nothing is pending, and its counts are what they were. After Failed its lists stay, and its
-- count of faults rose.
abbrev pub Replaces : Peer → Peer → Result (Unit {0}) Failed → Type 0
Replaces old new (Ok u) = (new.list ≡ []) × (new.pending ≡ None) × (new.faults ≡ old.faults) × (new.armings ≡ old.armings)
Replaces old new (Err e) = KeepsPeer old new × Rose old.faults new.faults × (new.armings ≡ old.armings)

-- One arming more, and else the peer that it was.
pub record Armed (old new : Peer) : Type 0 where
  pub stays : KeepsPeer old new
  pub faults : new.faults ≡ old.faults
  pub armings : new.armings ≡ min (old.armings + 1) (2 ^ 64 - 1)

-- Each image since is one that a crash might have left before, or is empty.
abbrev pub WasBefore : Cloud → Cloud → Type 0
WasBefore old new = LeavesOnly old new (λ (image : Image). IsImage old.now image ⊎ ((area : Area) → image area ≡ []))
