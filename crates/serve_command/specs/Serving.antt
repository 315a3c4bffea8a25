-- What requests on a connection do to a cloud.
use Rattle.std.specs.Prelude.{◌≡◌, ◌⊎◌, ℕ, List, None, Ok, Err, true, IsTrue}
use Rattle.ports_link.specs.CdBase.ids.Fp.{Fp}
use Rattle.ports_link.specs.CdBase.shape.Shape.{Shape}
use Rattle.share_server.specs.CdEdges.Disk.{Cloud}
use Rattle.share_server.specs.CdEdges.Shelf.{IsCall}
use Rattle.share_server.specs.CdEdges.Shelf.{Stays as StaysIn}
use Rattle.share_server.specs.JournalStart.start.Header.{Header}
use Rattle.share_server.specs.Messages.request.Request.{Request}
use Rattle.share_server.specs.Messages.reply.Reply.{Reply}
use Rattle.share_server.specs.Messages.reply.Reply.TheVariants as replies
use Rattle.share_server.specs.Messages.Replies.{IsReply, reply_bytes}
use Rattle.share_server.specs.UserDedup.command.Command.{Command}
use Rattle.share_server.specs.UserDedup.Exec.{Peer, Exec}
use Rattle.share_server.specs.UserDedup.Requests.{asked_at}
use Rattle.share_server.specs.UserDedup.Served.{served_by}
use Rattle.share_server.specs.CloudAreas.Peers.{ImagesSince, MayBecome, StandsAs}
use Rattle.share_server.specs.CloudMemory.Rooms.{memory_of}
use Rattle.share_server.specs.CloudStore.store.CloudStore.{CloudStore}
use Rattle.share_server.specs.CloudStore.Store.{IsOpen, ServesSome}
use Rattle.share_server.specs.ServerCommands.Leaving.{IsFound, LeavesAll}
use Rattle.share_server.specs.Serving.{IsServing, ExecutesAs, number_of, server_serves}
use Rattle.share_server.specs.Serving.{IsAnsweredContent, ChangesBehind, EntersBy, GrowsOn, OpensFirst, IsUnopenedReply, RottenLeaves}
use Rattle.share_server.specs.declared.server.Server.{Server}
use Rattle.share_server.specs.ServerRequests.Asking.{IsForMemory}
use Rattle.share_server.specs.ServerRequests.Hashed.{IsHashed}

-- The content asks nothing, and is answered by the first place that is wrong.
abbrev pub IsMalformed : Shape → List ℕ → List ℕ → Type 0
IsMalformed shape content reply =
    (at : ℕ) × (asked_at shape content ≡ Err at) × (reply ≡ reply_bytes (replies.Malformed at))

-- ---- a cloud that stands as a peer

-- what a cloud stands for, and the cloud
pub record Standing : Type 0 where
  pub peer : Peer
  pub cloud : Cloud

abbrev pub standing : Peer → Cloud → Standing
standing peer cloud = record { peer = peer; cloud = cloud }

-- The peer executes the request, and the cloud stands as what is left of it. Whenever a crash comes in between, it leaves
-- a list that the peer may settle as, or that list with the command that the request adds to it.
pub record ServesRequest (header : Header) (p : Standing) (request : Request) (reply : List ℕ) (q : Standing)
    : Type 0 where
  pub answer : Reply
  pub content_is : IsReply reply answer
  pub exec : Exec header.shape true (served_by header.rooms header.shape header.cloud.0) p.peer request answer q.peer
  pub images : ImagesSince p.cloud q.cloud header
      (MayBecome (served_by header.rooms header.shape header.cloud.0) p.peer request)
  pub stands : StandsAs q.cloud header q.peer

-- The content is a request that the cloud executes, or it asks nothing and changes nothing.
abbrev pub ServesOne : Header → Standing → List ℕ → List ℕ → Standing → Type 0
ServesOne header p content reply q =
    ((r : Request) × (asked_at header.shape content ≡ Ok r) × ServesRequest header p r reply q)
    ⊎ (IsMalformed header.shape content reply × (q ≡ p))

-- ---- whatever the cloud holds

-- a server's store, its cloud, and the shelf's count of faults in all
pub record HeldStore : Type 0 where
  pub store : CloudStore
  pub cloud : Cloud
  pub total : ℕ

abbrev pub held_of : CloudStore → Cloud → ℕ → HeldStore
held_of store cloud total = record { store = store; cloud = cloud; total = total }

-- What a request whose reply has this content does, whatever the cloud holds.
pub record RepliesTo (before after : HeldStore) (request : Request) (reply : List ℕ) : Type 0 where
  pub same : after.store.header ≡ before.store.header
  pub told : after.cloud.told ≡ before.cloud.told
  -- It is a reply that some server gives, and never that memory ran out. Fault comes only where the cloud's count rose and
  -- that in all, and closes the server; with any other reply no count rose.
  pub answered : IsAnsweredContent before.store.header.shape request after.store before.cloud after.cloud
      before.total after.total reply
  -- Behind it the server is open, but for Fault and the error of an opening. An open server never answers Damaged, and behind
  -- Damaged it is closed.
  pub refusals : IsOpen after.store
      ⊎ ((reply ≡ reply_bytes replies.Fault) ⊎ IsUnopenedReply before.store before.cloud after.cloud reply)
  pub undamaged : (at byte : ℕ) → IsOpen before.store → IsReply reply (replies.Damaged at byte) → ⊥
  pub damaged : (at byte : ℕ) → IsReply reply (replies.Damaged at byte) → ¬ (IsOpen after.store)
  -- Shares have the SHA-256 that was asked for, and a recipe has that of the memory's entry. Rotten names what lies where the
  -- memory has it, and behind it areas and memory are as they were.
  pub hashed : (answer : Reply) → IsReply reply answer → IsHashed (memory_of after.store.memory) request answer
  pub rotten_leaves : IsOpen before.store → RottenLeaves before.store after.store before.cloud after.cloud reply
  pub rotten : (named found : Fp) → IsOpen before.store → IsReply reply (replies.Rotten named found)
      → IsFound before.cloud (memory_of before.store.memory) request named found
  pub found : (named found : Fp) → IsReply reply (replies.Rotten named found)
      → IsFound after.cloud (memory_of after.store.memory) request named found
  -- An open server leaves all as it was where it answers by its memory alone, and where the reply says that nothing is
  -- added or read; a request that adds nothing to a list that is served leaves areas and memory; and what is added lies
  -- behind what there was.
  pub no_call : IsOpen before.store → IsForMemory request → after ≡ before
  pub untouched : (answer : Reply) → IsOpen before.store → LeavesAll request answer → IsReply reply answer
      → after ≡ before
  pub stays : (list : List Command) → IsOpen before.store → ServesSome list before.store before.cloud
      → (served_by before.store.header.rooms before.store.header.shape before.store.header.cloud.0 list
      request).adds ≡ None
      → StaysIn before.cloud after.cloud × (after.store.memory ≡ before.store.memory)
  pub behind : IsOpen before.store → ChangesBehind before.store after.store before.cloud after.cloud request
  -- What it says was added is on the disk of a told cloud, behind what there was, whatever the records say.
  pub grown : IsOpen before.store → GrowsOn before.store after.store before.cloud after.cloud request reply
  -- What the reply says of a Put, a Commit or a Delete is so by the memory.
  pub enters : IsOpen before.store → EntersBy before.store after.store request reply
  -- A closed server opens a told cloud first, or its reply is the error of the opening, and the areas are spared.
  pub first : IsTrue before.cloud.told → ¬ (IsOpen before.store)
      → OpensFirst before.store after.store before.cloud after.cloud request reply
      ⊎ IsUnopenedReply before.store before.cloud after.cloud reply

-- The content is a request that is replied to so, or it asks nothing and changes nothing.
abbrev pub RepliesOne : HeldStore → List ℕ → List ℕ → HeldStore → Type 0
RepliesOne before content reply after =
    ((r : Request) × (asked_at before.store.header.shape content ≡ Ok r) × RepliesTo before after r reply)
    ⊎ (IsMalformed before.store.header.shape content reply × (after ≡ before))

-- ---- a server

-- a server, and the clouds of its shelf with the count of faults in all
pub record ServingPlace : Type 0 where
  pub server : Server
  pub clouds : ℕ → Cloud
  pub faults : ℕ

abbrev pub place_of : Server → (ℕ → Cloud) → ℕ → ServingPlace
place_of server clouds faults = record { server = server; clouds = clouds; faults = faults }

-- What the server's answer to a content does: on a cloud that stands as a peer, and whatever it holds.
pub record HasAnsweredContent (before after : ServingPlace) (content reply : List ℕ) : Type 0 where
  pub same : after.server.store.header ≡ before.server.store.header
  pub exec : (p : Peer) (r : Request) → IsTrue (before.clouds (number_of before.server)).told
      → IsServing before.server (before.clouds (number_of before.server)) p
      → asked_at before.server.store.header.shape content ≡ Ok r
      → ExecutesAs before.server.store after.server.store (after.clouds (number_of before.server)) p r reply
  pub images : (p : Peer) (r : Request) → IsTrue (before.clouds (number_of before.server)).told
      → IsServing before.server (before.clouds (number_of before.server)) p
      → asked_at before.server.store.header.shape content ≡ Ok r
      → ImagesSince (before.clouds (number_of before.server)) (after.clouds (number_of before.server))
      before.server.store.header (MayBecome (server_serves before.server) p r)
  pub malformed : (at : ℕ) → asked_at before.server.store.header.shape content ≡ Err at
      → (reply ≡ reply_bytes (replies.Malformed at)) × (after.server ≡ before.server) × (after.clouds ≡ before.clouds)
  pub replied : RepliesOne (held_of before.server.store (before.clouds (number_of before.server)) before.faults)
      content reply (held_of after.server.store (after.clouds (number_of before.server)) after.faults)
  pub call : IsCall before.clouds after.clouds (number_of before.server) before.faults after.faults
