-- What the link tells of its clouds.
use Rattle.std.specs.Prelude.{◌≡◌, ◌≢◌, ◌⊎◌, ℕ, ◌<◌, ◌≤◌, Bool, true, false, IsTrue, List, Option, Some, None, Ok, IfSome, IsSomeAnd, nat_lt, slice_get}
use Rattle.share_server.specs.CdBase.Reading.{AreBytes}
use Rattle.share_server.specs.CdBase.ids.Fp.{Fp}
use Rattle.share_server.specs.CdBase.shape.Shape.{Shape}
use Rattle.share_server.specs.CdEdges.Disk.{Cloud, Image, IsImage, LeavesOnly, reads}
use Rattle.share_server.specs.CdEdges.area.Area.TheVariants.{Journal}
use Rattle.share_server.specs.CdEdges.Shelf.{Stays}
use Rattle.share_server.specs.UserDedup.command.Command.{Command}
use Rattle.share_server.specs.Messages.request.Request.{Request}
use Rattle.share_server.specs.Messages.reply.Reply.{Reply}
use Rattle.share_server.specs.Messages.reply.Reply.TheVariants as replies
use Rattle.share_server.specs.Messages.Answering.{IsReplyTo}
use Rattle.share_server.specs.Messages.Replies.{IsReply}
use Rattle.share_server.specs.CdEdges.Causes.{Rose}
use Rattle.share_server.specs.UserDedup.Dedup.{Outcome, FullRoom}
use Rattle.share_server.specs.UserDedup.Requests.{asked_at}
use Rattle.share_server.specs.UserDedup.Exec.{Peer, KeepsPeer, CountsOn, Exec, StandsSound, items_of, served}
use Rattle.share_server.specs.UserDedup.Link.{LinkTelling, Exchange, AddsNothing}
use Rattle.share_server.specs.CloudAreas.Peers.{ImagesSince, MayBecome}
use Rattle.share_server.specs.JournalHalves.Beginnings.{IsUnbegun}
use Rattle.share_server.specs.CloudOpening.Exact.{Opens}
use Rattle.share_server.specs.JournalStart.rooms.UserRooms.{UserRooms}
use Rattle.share_server.specs.JournalStart.start.Header.{Header}
use Rattle.share_server.specs.JournalStart.Ranges.{usual_rooms}
use Rattle.share_server.specs.Names.{header_of}
use Rattle.share_server.specs.UserDedup.Spending.{full_for}
use Rattle.share_server.specs.declared.server.Server.{Server}
use Rattle.share_server.specs.CloudMemory.Memory.{Memory}
use Rattle.share_server.specs.CloudMemory.Rooms.{memory_of}
use Rattle.share_server.specs.CloudStore.Store.{IsOpen}
use Rattle.share_server.specs.ServerCommands.Entering.{ReadsBy}
use Rattle.share_server.specs.ServerCommands.Leaving.{IsFound}
use Rattle.share_server.specs.CloudStore.store.CloudStore.{CloudStore}
use Rattle.share_server.specs.Serving.{IsServing, GrowsOn, OpensFirst, IsUnopenedReply}
use Rattle.local_link.specs.declared.fate.Fate.{Fate}
use Rattle.local_link.specs.declared.fate.Fate.TheVariants as fates
use Rattle.local_link.specs.declared.fate.Fate.TheVariants.{Deliver}
use Rattle.local_link.specs.declared.servers.Servers.{Servers}
use Rattle.local_link.specs.declared.link.LocalLink.{LocalLink}

-- the server of a cloud
abbrev pub server_at : Servers → ℕ → Option Server
server_at servers cloud = slice_get servers.list.items cloud

-- the rooms of a server; where there is none, the usual ones
abbrev pub rooms_of : Option Server → UserRooms
rooms_of None = usual_rooms
rooms_of (Some server) = server.store.header.rooms

-- the rooms of a cloud's server
abbrev pub rooms_at : Servers → ℕ → UserRooms
rooms_at servers cloud = rooms_of (server_at servers cloud)

-- the header of a cloud of the servers' store, in the rooms of its server
abbrev pub header_at : Servers → ℕ → Header
header_at servers cloud = header_of servers.shape (rooms_at servers cloud) cloud

-- when a room of a cloud's server is full
abbrev pub full_at : Servers → ℕ → List Command → Command → Option FullRoom
full_at servers cloud = full_for servers.shape (rooms_at servers cloud)

-- The cloud of this number, over which this server is, stands as the peer. Its counts are the peer's; and where the cloud is told the
-- server serves it as the peer, whose lists are sound.
pub record IsPeer (shape : Shape) (number : ℕ) (cloud : Cloud) (server : Option Server) (p : Peer) : Type 0 where
  pub faults : p.faults ≡ cloud.faults
  pub armings : p.armings ≡ cloud.armings
  pub serving : IsTrue cloud.told → IsSomeAnd server (λ (s : Server). IsServing s cloud p)
  pub sound : IsTrue cloud.told → StandsSound shape number p

-- the next ask isn't lost
abbrev pub is_delivered : Fate → Bool
is_delivered fates.Deliver = true
is_delivered fates.LoseRequest = false
is_delivered fates.LoseReply = false

-- The other clouds, their servers, the store's shape, and of which clouds the shelf tells are as they were.
pub record LeavesRest {V : Type 0} (clouds : V → ℕ → Cloud) (cloud : ℕ) (old new : LocalLink V) : Type 0 where
  pub clouds_stay : (other : ℕ) → other ≢ cloud → clouds new.shelf.now other ≡ clouds old.shelf.now other
  pub servers_stay : (other : ℕ) → other ≢ cloud → server_at new.servers other ≡ server_at old.servers other
  pub shape_stays : new.servers.shape ≡ old.servers.shape
  pub told_stays : (number : ℕ) → (clouds new.shelf.now number).told ≡ (clouds old.shelf.now number).told

-- what the cloud of a link serves
abbrev pub serving_at : {V : Type 0} → LocalLink V → ℕ → List Command → Request → Outcome
serving_at link cloud = served link.servers.shape cloud (full_at link.servers cloud)

-- how the cloud of a link stands
abbrev pub StandsAt : {V : Type 0} → (V → ℕ → Cloud) → LocalLink V → ℕ → Peer → Type 0
StandsAt clouds link cloud p = IsPeer link.servers.shape cloud (clouds link.shelf.now cloud) (server_at link.servers cloud) p

-- The cloud's server is open, and this is its memory.
abbrev pub IsOpenWith : Servers → ℕ → Memory → Type 0
IsOpenWith servers cloud m = IsSomeAnd (server_at servers cloud) (λ (server : Server). IsOpen server.store × (memory_of server.store.memory ≡ m))

-- The content is a reply to this request, and says what this memory has; where it is Rotten it names what lies at the memory's place.
pub record IsSaidBy (cloud : Cloud) (m : Memory) (request : Request) (content : List ℕ) : Type 0 where
  pub answer : Reply
  pub is : IsReply content answer
  pub by : ReadsBy m request answer
  pub found : (named what : Fp) → IsReply content (replies.Rotten named what) → IsFound cloud m request named what

-- An open server with this memory was asked for what adds nothing. The areas stay. The cloud's count rose, or the server is open with this memory
-- still, and what came back is by it.
pub record ReadsOpen (old new : Cloud) (servers : Servers) (e : Exchange) (m : Memory) (request : Request) : Type 0 where
  pub stays : Stays old new
  pub at_end : Rose old.faults new.faults ⊎ IsOpenWith servers e.cloud m
  pub says : (content : List ℕ) → e.reply ≡ Some content → Rose old.faults new.faults ⊎ IsSaidBy old m request content

-- What the areas read opens with this header, to this memory, and a crash leaves nothing else. The server is closed, or has the memory.
pub record IsRemembered (header : Header) (cloud : Cloud) (server : Option Server) (m : Memory) : Type 0 where
  pub commands : ℕ
  pub opens : Opens header false (reads cloud.now) m (Ok commands)
  pub begun : ¬ IsUnbegun (reads cloud.now Journal)
  pub alone : (image : Image) → IsImage cloud.now image → image ≡ reads cloud.now
  pub keeps : IsSomeAnd server (λ (s : Server). IsOpen s.store → memory_of s.store.memory ≡ m)

-- Such a told cloud was asked for what adds nothing. It is so still, it reads as it did, and a crash at any moment since leaves nothing else. What
-- came back is Fault, or by the memory.
pub record ReadsTold (header : Header) (old new : Cloud) (server : Option Server) (e : Exchange) (m : Memory) (request : Request) : Type 0 where
  pub at_end : IsRemembered header new server m
  pub since : LeavesOnly old new (λ (image : Image). image ≡ reads old.now)
  pub same : reads new.now ≡ reads old.now
  pub says : (content : List ℕ) → e.reply ≡ Some content → IsReply content replies.Fault ⊎ IsSaidBy old m request content

-- A closed server was opened first; or its cloud isn't opened, and where that is for a device that failed the server is closed still.
abbrev pub OpensOrShuts : CloudStore → CloudStore → Cloud → Cloud → Request → List ℕ → Type 0
OpensOrShuts old new before after request content = OpensFirst old new before after request content
    ⊎ (IsUnopenedReply old before after content × (IsReply content replies.Fault → ¬ (IsOpen new)))

-- Only its cloud was touched, and nothing but the fate beside it; the shelf is the same one; the cloud went on from each peer that it stood
-- for, by the reply that came, and without a reply it may have stayed; and whenever a crash came it left a list that the cloud might have settled
-- as, or one with the command that the request adds. Whatever the cloud has, it isn't armed, its count of faults doesn't fall, and a reply that
-- came is one that some server gives to the request, Fault only where that count rose. Where the server was open and
-- the request adds nothing, the reply is what its memory says; and so it is of a told cloud whose areas open to a memory, whatever failed
-- before. What a reply says was added is on the disk of a told cloud, whatever its records say: by an open server behind the chain that it has
-- read, and by a closed one behind that which it opened.
pub record PassesOn {V : Type 0} (clouds : V → ℕ → Cloud) (old : LocalLink V) (e : Exchange) (new : LocalLink V) : Type 0 where
  pub reached : e.cloud < old.servers.shape.n
  pub bytes : AreBytes e.content
  pub rest : LeavesRest clouds e.cloud old new
  pub rooms : rooms_at new.servers e.cloud ≡ rooms_at old.servers e.cloud
  pub fate : new.fate ≡ Deliver
  pub same_reference : new.shelf.ghost_name ≡ old.shelf.ghost_name
  pub armings : (clouds new.shelf.now e.cloud).armings ≡ (clouds old.shelf.now e.cloud).armings
  pub later : (clouds old.shelf.now e.cloud).faults ≤ (clouds new.shelf.now e.cloud).faults
  pub said : (r : Request) (content : List ℕ) → asked_at old.servers.shape e.content ≡ Ok r → e.reply ≡ Some content
      → (answer : Reply) × IsReply content answer × IsReplyTo (items_of old.servers.shape r) r answer
      × (answer ≢ replies.NoMemory)
      × (answer ≡ replies.Fault → Rose (clouds old.shelf.now e.cloud).faults (clouds new.shelf.now e.cloud).faults)
  pub reads : (m : Memory) (r : Request) → asked_at old.servers.shape e.content ≡ Ok r → AddsNothing r → IsOpenWith old.servers e.cloud m
      → ReadsOpen (clouds old.shelf.now e.cloud) (clouds new.shelf.now e.cloud) new.servers e m r
  pub recalls : (m : Memory) (r : Request) → IsTrue (clouds old.shelf.now e.cloud).told → asked_at old.servers.shape e.content ≡ Ok r → AddsNothing r
      → IsRemembered (header_at old.servers e.cloud) (clouds old.shelf.now e.cloud) (server_at old.servers e.cloud) m
      → ReadsTold (header_at old.servers e.cloud) (clouds old.shelf.now e.cloud) (clouds new.shelf.now e.cloud) (server_at new.servers e.cloud) e m r
  pub grown : (r : Request) (content : List ℕ) → asked_at old.servers.shape e.content ≡ Ok r → e.reply ≡ Some content
      → IsSomeAnd (server_at old.servers e.cloud) (λ (before : Server). IsOpen before.store
      → IsSomeAnd (server_at new.servers e.cloud) (λ (after : Server). GrowsOn before.store after.store (clouds old.shelf.now e.cloud) (clouds new.shelf.now e.cloud) r content))
  pub first : (r : Request) (content : List ℕ) → IsTrue (clouds old.shelf.now e.cloud).told → asked_at old.servers.shape e.content ≡ Ok r → e.reply ≡ Some content
      → IsSomeAnd (server_at old.servers e.cloud) (λ (before : Server). ¬ (IsOpen before.store)
      → IsSomeAnd (server_at new.servers e.cloud) (λ (after : Server). OpensOrShuts before.store after.store (clouds old.shelf.now e.cloud) (clouds new.shelf.now e.cloud) r content))
  pub goes : (p : Peer) (r : Request) → asked_at old.servers.shape e.content ≡ Ok r → StandsAt clouds old e.cloud p
      → (q : Peer) × StandsAt clouds new e.cloud q × ((KeepsPeer p q × CountsOn p q × (e.reply ≡ None))
      ⊎ ((answer : Reply) × IfSome e.reply (λ (content : List ℕ). IsReply content answer)
      × Exec old.servers.shape (clouds old.shelf.now e.cloud).told (serving_at old e.cloud) p r answer q))
  pub images : (p : Peer) (r : Request) → IsTrue (clouds old.shelf.now e.cloud).told → StandsAt clouds old e.cloud p → asked_at old.servers.shape e.content ≡ Ok r
      → ImagesSince (clouds old.shelf.now e.cloud) (clouds new.shelf.now e.cloud) (header_at old.servers e.cloud) (MayBecome (serving_at old e.cloud) p r)

-- It reaches the clouds that have a server, and tells of those of which the shelf does.
abbrev pub telling : {V : Type 0} → (V → ℕ → Cloud) → LinkTelling (LocalLink V)
telling {V} clouds = record {
  reaches = λ (link : LocalLink V) cloud. nat_lt cloud link.servers.shape.n;
  shape = λ link. link.servers.shape;
  told = λ link cloud. (clouds link.shelf.now cloud).told;
  stands = λ link cloud. IsPeer link.servers.shape cloud (clouds link.shelf.now cloud) (server_at link.servers cloud);
  full = λ link cloud. full_at link.servers cloud;
  losses = λ link. link.losses;
  lossless = λ link. is_delivered link.fate;
  passes = PassesOn clouds;
}
