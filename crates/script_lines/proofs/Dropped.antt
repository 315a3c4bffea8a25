-- A request of which the reply is lost.
use Rattle.std.proofs.Common.{◌≡◌, ℕ, ◌<◌, List, sym, ap, ◌∙◌, subst}
use Rattle.std.specs.Prelude.{◌≢◌, IsTrue, IsSomeAnd, Ok}
use Rattle.session_model.specs.CdEdges.Disk.{Cloud}
use Rattle.session_model.specs.JournalStart.start.Header.{Header}
use Rattle.deletions.specs.Messages.request.Request.{Request}
use Rattle.deletions.specs.Messages.reply.Reply.{Reply}
use Rattle.session_model.specs.UserDedup.Requests.{asked_at}
use Rattle.session_model.specs.UserDedup.Exec.{Peer}
use Rattle.session_model.specs.UserDedup.Link.{LeavesOthers, Does, serves}
use Rattle.session_model.specs.CloudAreas.Peers.{ImagesSince, MayBecome}
use Rattle.session_model.specs.ShareServer.server.Server.{Server}
use Rattle.session_model.specs.LocalLink.fate.Fate.TheVariants as fates
use Rattle.session_model.specs.LocalLink.fate.Fate.TheVariants.{Deliver}
use Rattle.session_model.specs.LocalLink.link.LocalLink.{LocalLink}
use Rattle.session_model.specs.LocalLink.Tells.{rooms_at, header_at, telling, StandsAt, LeavesRest}
use Rattle.script_lines.specs.Dropping.{IsReplyDropped}

module _ {V : Type 0} (clouds : V → ℕ → Cloud) (cloud : ℕ) (content : List ℕ) where
  asked_of : (old mid new : LocalLink V) → mid ≡ record old { fate = fates.LoseReply } → cloud < old.servers.shape.n → new.fate ≡ Deliver → LeavesOthers (telling clouds) cloud mid new → LeavesRest clouds cloud mid new
      → new.shelf.ghost_name ≡ mid.shelf.ghost_name
      → (mid.fate ≢ fates.LoseRequest → (r : Request) → asked_at mid.servers.shape content ≡ Ok r → (p : Peer) → StandsAt clouds mid cloud p → (q : Peer) × (answer : Reply) × StandsAt clouds new cloud q × Does (telling clouds) cloud mid p r answer q)
      → ((p : Peer) (r : Request) → IsTrue (clouds mid.shelf.now cloud).told → StandsAt clouds mid cloud p → asked_at mid.servers.shape content ≡ Ok r
      → ImagesSince (clouds mid.shelf.now cloud) (clouds new.shelf.now cloud) (header_at mid.servers cloud) (MayBecome (serves (telling clouds) mid cloud) p r))
      → rooms_at new.servers cloud ≡ rooms_at mid.servers cloud
      → (mid.fate ≡ fates.LoseReply → IsReplyDropped clouds cloud content mid new)
  asked_of old mid new set below fate others rest same executed images rooms loses = record {
    fate = fate;
    others = others;
    rest = rest;
    rooms = rooms;
    same_reference = same;
    goes = λ r p asked stands. executed (λ e. let f : fates.LoseReply ≡ fates.LoseRequest = sym loses ∙ e in cc) r asked p stands;
    images = λ r p asked told stands. images p r told stands asked;
  }

  -- nothing that is said of it sees the fate
  by_fate : (old new : LocalLink V) → IsReplyDropped clouds cloud content (record old { fate = fates.LoseReply }) new → IsReplyDropped clouds cloud content old new
  by_fate old new x = record {
    fate = x.fate;
    others = record { stands = x.others.stands; reaches = x.others.reaches; shape = x.others.shape; told = x.others.told; full = x.others.full };
    rest = record { clouds_stay = x.rest.clouds_stay; servers_stay = x.rest.servers_stay; shape_stays = x.rest.shape_stays; told_stays = x.rest.told_stays };
    rooms = x.rooms;
    same_reference = x.same_reference;
    goes = x.goes;
    images = x.images;
  }

  pub dropped : (old mid new : LocalLink V) → mid ≡ record old { fate = fates.LoseReply } → cloud < old.servers.shape.n → new.fate ≡ Deliver → LeavesOthers (telling clouds) cloud mid new → LeavesRest clouds cloud mid new
      → new.shelf.ghost_name ≡ mid.shelf.ghost_name
      → (mid.fate ≢ fates.LoseRequest → (r : Request) → asked_at mid.servers.shape content ≡ Ok r → (p : Peer) → StandsAt clouds mid cloud p → (q : Peer) × (answer : Reply) × StandsAt clouds new cloud q × Does (telling clouds) cloud mid p r answer q)
      → ((p : Peer) (r : Request) → IsTrue (clouds mid.shelf.now cloud).told → StandsAt clouds mid cloud p → asked_at mid.servers.shape content ≡ Ok r
      → ImagesSince (clouds mid.shelf.now cloud) (clouds new.shelf.now cloud) (header_at mid.servers cloud) (MayBecome (serves (telling clouds) mid cloud) p r))
      → rooms_at new.servers cloud ≡ rooms_at mid.servers cloud
      → IsReplyDropped clouds cloud content old new
  dropped old mid new set below fate others rest same executed images rooms =
      by_fate old new (subst (λ (l : LocalLink V). IsReplyDropped clouds cloud content l new) set
      (asked_of old mid new set below fate others rest same executed images rooms (ap (λ (l : LocalLink V). l.fate) set)))
