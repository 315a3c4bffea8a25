-- A store that serves a list, and one that is shut, as a peer.
use Rattle.std.proofs.Common.{◌≡◌, ⊎_elim, inl, ℕ, List, ◌∷◌, ◌++◌, [], Some, refl, sym, ◌∙◌, subst}
use Rattle.server_requests.specs.CdBase.shape.Shape.{Shape}
use Rattle.server_requests.specs.CdEdges.area.Area.TheVariants.{Journal}
use Rattle.server_requests.specs.CdEdges.Disk.{Cloud, Image, IsImage, reads}
use Rattle.server_requests.specs.CommitJournal.journal.Stage.TheVariants.{AtEnd, Shut}
use Rattle.blob_copy.specs.JournalHalves.Beginnings.{IsUnbegun}
use Rattle.server_requests.specs.JournalStart.rooms.UserRooms.{UserRooms}
use Rattle.server_requests.specs.JournalStart.start.Header.{Header}
use Rattle.server_requests.specs.JournalStart.Ranges.{AreRooms}
use Rattle.server_requests.specs.Messages.request.Request.{Request}
use Rattle.server_requests.specs.UserDedup.command.Command.{Command}
use Rattle.server_requests.specs.UserDedup.Dedup.{answer_over}
use Rattle.server_requests.specs.UserDedup.Exec.{Peer, MaySettleAs}
use Rattle.server_requests.specs.UserDedup.Served.{served_by}
use Rattle.server_requests.specs.UserDedup.Spending.{full_for, IsWithin}
use Rattle.server_requests.proofs.UserDedup.Within.{next_within}
use Rattle.server_requests.proofs.ServerCommands.Doing.{images_served}
use Rattle.blob_copy.specs.CloudAreas.Peers.{ImagesNow}
use Rattle.blob_copy.specs.CloudAreas.Standing.{StandsFor}
use Rattle.blob_copy.proofs.CommitJournal.Opening.{not_unbegun}
use Rattle.blob_copy.proofs.UserDedup.Served.{has_room}
use Rattle.blob_copy.specs.CloudOpening.RecordLaws.Leaving.{MayHold}
use Rattle.server_requests.specs.CloudStore.store.CloudStore.{CloudStore}
use Rattle.server_requests.specs.CloudStore.Store.{IsOpen, ServesSome}
use Rattle.share_server.specs.Serving.{ServesAs, settled_with}

-- ---- a store that serves a list

-- it stands as the peer with that list and nothing pending
pub open_serves : (s : CloudStore) (cloud : Cloud) (list : List Command) → ServesSome list s cloud → ServesAs s cloud (settled_with list cloud)
open_serves s cloud list some = record {
  stands = record {
    images = λ image left. (list, inl refl, images_served s cloud list some image left);
    faults = refl;
    armings = refl;
  };
  within = λ other may. ⊎_elim (λ same. subst (IsWithin s.header.shape s.header.rooms) (sym same) some.serves.known.within) (λ none. absurd none) may;
  ready = λ opened. some;
}

-- ---- a store that is shut

pub shut_closed : (s : CloudStore) → s.disk.journal.stage ≡ Shut → ¬ (IsOpen s)
shut_closed s shut opened = (let e : Shut ≡ AtEnd = sym shut ∙ opened in cc)

pub closed_serves : (s : CloudStore) (cloud : Cloud) (p : Peer) → ImagesNow cloud s.header (MaySettleAs p) → p.faults ≡ cloud.faults → p.armings ≡ cloud.armings
    → ((list : List Command) → MaySettleAs p list → IsWithin s.header.shape s.header.rooms list) → ¬ (IsOpen s) → ServesAs s cloud p
closed_serves s cloud p images faults armings within shut = record {
  stands = record { images = images; faults = faults; armings = armings };
  within = within;
  ready = λ opened. absurd (shut opened);
}

-- ---- what the cloud reads

pub read_stands : (s : CloudStore) (cloud : Cloud) (p : Peer) → ServesAs s cloud p → IsImage cloud.now (reads cloud.now)
    → (list : List Command) × MaySettleAs p list × StandsFor (reads cloud.now) s.header list
read_stands s cloud p serving read = serving.stands.images (reads cloud.now) read

pub may_hold : (header : Header) (image : Image) (list : List Command) → header.format ≡ 2 → AreRooms header.rooms → StandsFor image header list → IsWithin header.shape header.rooms list
    → MayHold header list
unfolding StandsFor
may_hold header image list format rooms stands within = record {
  format = λ first. (let f : 2 ≡ 1 = sym format ∙ first in cc);
  rooms = rooms;
  sound = stands.0;
  within = within;
}

-- a journal of which no half is begun stands for no commands
pub none_unbegun : (image : Image) (header : Header) (list : List Command) → StandsFor image header list → IsUnbegun (image Journal) → list ≡ []
unfolding StandsFor
none_unbegun image header list stands none = ⊎_elim
    (λ has. absurd (let current = has.is_chain.there.current in not_unbegun (image Journal) has.chain_of.half has.chain_of.start current none))
    (λ empty. empty.1) stands.1

-- ---- a command that is added

pub within_more : (rooms : UserRooms) (shape : Shape) (cloud : ℕ) (list : List Command) (request : Request) (command : Command) → IsWithin shape rooms list
    → (served_by rooms shape cloud list request).adds ≡ Some command → IsWithin shape rooms (list ++ command ∷ [])
within_more rooms shape cloud list request command within e =
    next_within shape rooms list command within (has_room (full_for shape rooms list) (answer_over shape cloud list request) command e)
