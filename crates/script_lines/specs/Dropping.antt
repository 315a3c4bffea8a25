-- A request that a cloud executes and whose reply is lost.
use Rattle.std.specs.Prelude.{◌≡◌, ℕ, Bool, true, false, IsTrue, List, Ok}
use Rattle.session_model.specs.CdEdges.Disk.{Cloud}
use Rattle.deletions.specs.Messages.request.Request.{Request}
use Rattle.deletions.specs.Messages.reply.Reply.{Reply}
use Rattle.session_model.specs.UserDedup.Requests.{asked_at}
use Rattle.session_model.specs.UserDedup.Exec.{Peer, Exec}
use Rattle.session_model.specs.UserDedup.Link.{LeavesOthers}
use Rattle.session_model.specs.CloudAreas.Peers.{ImagesSince, MayBecome}
use Rattle.session_model.specs.LocalLink.fate.Fate.TheVariants.{Deliver}
use Rattle.session_model.specs.LocalLink.link.LocalLink.{LocalLink}
use Rattle.session_model.specs.LocalLink.Tells.{telling, serving_at, StandsAt, LeavesRest, rooms_at, header_at}

-- The cloud executed the content, and what it replied is lost.
pub record IsReplyDropped {V : Type 0} (clouds : V → ℕ → Cloud) (cloud : ℕ) (content : List ℕ) (old new : LocalLink V)
    : Type 0 where
  pub fate : new.fate ≡ Deliver
  pub others : LeavesOthers (telling clouds) cloud old new
  pub rest : LeavesRest clouds cloud old new
  pub rooms : rooms_at new.servers cloud ≡ rooms_at old.servers cloud
  pub same_reference : new.shelf.ghost_name ≡ old.shelf.ghost_name
  pub goes : (r : Request) (p : Peer) → asked_at old.servers.shape content ≡ Ok r → StandsAt clouds old cloud p
      → (q : Peer) × (answer : Reply) × StandsAt clouds new cloud q
      × Exec old.servers.shape (clouds old.shelf.now cloud).told (serving_at old cloud) p r answer q
  pub images : (r : Request) (p : Peer) → asked_at old.servers.shape content ≡ Ok r
      → IsTrue (clouds old.shelf.now cloud).told → StandsAt clouds old cloud p
      → ImagesSince (clouds old.shelf.now cloud) (clouds new.shelf.now cloud) (header_at old.servers cloud)
      (MayBecome (serving_at old cloud) p r)

-- so where there is a request, and else nothing changed
abbrev pub Drops : {V : Type 0} → (V → ℕ → Cloud) → ℕ → Bool → List ℕ → LocalLink V → LocalLink V → Type 0
Drops clouds cloud true content old new = IsReplyDropped clouds cloud content old new
Drops clouds cloud false content old new = new ≡ old
