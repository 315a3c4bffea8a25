-- What a call does to one of the servers.
use Rattle.std.specs.Prelude.{◌≡◌, ◌≢◌, ◌⊎◌, ℕ, Bool, true, IsTrue, List, Some, Result, Ok, Err, IfOk, OnOk, OnErr, slice_set}
use Rattle.std.specs.List.{Contains}
use Rattle.share_server.specs.CdBase.ids.Fp.{Fp}
use Rattle.share_server.specs.JournalStart.rooms.UserRooms.{UserRooms}
use Rattle.share_server.specs.CdBase.shape.Shape.{Shape}
use Rattle.share_server.specs.CdEdges.area.Area.TheVariants.{Journal}
use Rattle.share_server.specs.CdEdges.Disk.{Cloud, reads}
use Rattle.share_server.specs.CdEdges.Shelf.{IsCall, HasFailed, KeepsCounts}
use Rattle.share_server.specs.CommitJournal.errors.OpenErr.{OpenErr}
use Rattle.share_server.specs.Messages.request.Request.{Request}
use Rattle.share_server.specs.Messages.reply.Reply.{Reply}
use Rattle.share_server.specs.Messages.reply.Reply.TheVariants as replies
use Rattle.share_server.specs.Messages.Answering.{IsReplyTo}
use Rattle.share_server.specs.Messages.Replies.{IsReply, reply_bytes}
use Rattle.share_server.specs.UserDedup.command.Command.{Command}
use Rattle.share_server.specs.UserDedup.Requests.{asked_at}
use Rattle.share_server.specs.UserDedup.Exec.{Peer, Exec, items_of}
use Rattle.share_server.specs.CommitJournal.Openings.{OnFault, HasBegun}
use Rattle.share_server.specs.CloudOpening.Spared.{IsOkOrFault, MayBegin, Spares}
use Rattle.share_server.specs.Openings.{NotBegunIs, OtherStoreIs}
use Rattle.share_server.specs.CloudOpening.Exact.{Opens}
use Rattle.share_server.specs.UserDedup.Spending.{IsWithin}
use Rattle.share_server.specs.CloudStore.Store.{IsOpen}
use Rattle.share_server.specs.CloudAreas.Peers.{ImagesNow, ImagesSince, MayBecome}
use Rattle.share_server.specs.CloudAreas.Standing.{StandsFor}
use Rattle.share_server.specs.CloudMemory.Rooms.{memory_of}
use Rattle.share_server.specs.ServerCommands.Leaving.{IsFound, LeavesAll}
use Rattle.share_server.specs.declared.server.Server.{Server}
use Rattle.share_server.specs.UserDedup.Cloud.{counted}
use Rattle.share_server.specs.Serving.{number_of, IsServing, server_serves, settled_with, ReopensAs, CanOpen, IsUnopenedReply, ChangesBehind, EntersBy, GrowsOn}
use Rattle.local_link.specs.declared.servers.Servers.{Servers}
use Rattle.local_link.specs.Tells.{server_at}
pub use Rattle.local_link.specs.Tells.{OpensOrShuts}

-- One server stood at this place, and another stands there now. The others are as they were.
pub record HasPutServer (old new : Servers) (cloud : ℕ) (before after : Server) : Type 0 where
  pub here : server_at old cloud ≡ Some before
  pub list : new.list.items ≡ slice_set old.list.items cloud after
  pub shape : new.shape ≡ old.shape

-- A closed server in these rooms.
pub record IsClosedIn (rooms : UserRooms) (server : Server) : Type 0 where
  pub rooms_are : server.store.header.rooms ≡ rooms
  pub shut : ¬ (IsOpen server.store)

-- The server is closed, and else what it was.
pub record IsServerClosed (before after : Server) : Type 0 where
  pub same : after.store.header ≡ before.store.header
  pub shut : ¬ (IsOpen after.store)

-- what a server does to a peer that it serves, and what it replies
pub record Executed (before after : Server) (cloud : Cloud) (p : Peer) (request : Request) (reply : List ℕ) : Type 0 where
  pub left : Peer
  pub answer : Reply
  pub stands : IsServing after cloud left
  pub is : IsReply reply answer
  pub exec : Exec before.store.header.shape true (server_serves before) p request answer left

-- what it replies whatever is told of its cloud
pub record Replied (shape : Shape) (old new : Cloud) (faults_before faults_after : ℕ) (request : Request) (reply : List ℕ) : Type 0 where
  pub answer : Reply
  pub is : IsReply reply answer
  pub kind : IsReplyTo (items_of shape request) request answer
  pub memory : answer ≢ replies.NoMemory
  pub fault : answer ≡ replies.Fault → HasFailed old new faults_before faults_after
  pub still : answer ≢ replies.Fault → KeepsCounts old new faults_before faults_after

-- What an open server replies: it never says that the journal is damaged; and where it says that it stores, enters or reads nothing, no cloud
-- was called.
pub record RepliesOpen (old new : ℕ → Cloud) (faults_before faults_after : ℕ) (request : Request) (reply : List ℕ) : Type 0 where
  pub undamaged : (at byte : ℕ) → IsReply reply (replies.Damaged at byte) → ⊥
  pub untouched : (answer : Reply) → LeavesAll request answer → IsReply reply answer → (new ≡ old)
      × (faults_after ≡ faults_before)

-- A server executed the content, over the clouds of a shelf.
pub record HasServerExecuted (before after : Server) (old new : ℕ → Cloud) (faults_before faults_after : ℕ) (content reply : List ℕ) : Type 0 where
  pub same : after.store.header ≡ before.store.header
  pub exec : (p : Peer) (request : Request) → IsTrue (old (number_of before)).told → IsServing before (old (number_of before)) p
      → asked_at before.store.header.shape content ≡ Ok request → Executed before after (new (number_of before)) p request reply
  pub images : (p : Peer) (request : Request) → IsTrue (old (number_of before)).told → IsServing before (old (number_of before)) p
      → asked_at before.store.header.shape content ≡ Ok request
      → ImagesSince (old (number_of before)) (new (number_of before)) before.store.header (MayBecome (server_serves before) p request)
  pub malformed : (at : ℕ) → asked_at before.store.header.shape content ≡ Err at
      → (reply ≡ reply_bytes (replies.Malformed at)) × (after ≡ before) × (new ≡ old)
  pub uncounted : (at : ℕ) → asked_at before.store.header.shape content ≡ Err at → faults_after ≡ faults_before
  pub untold : (request : Request) → asked_at before.store.header.shape content ≡ Ok request
      → Replied before.store.header.shape (old (number_of before)) (new (number_of before)) faults_before faults_after request reply
  pub closed : (request : Request) → IsTrue (old (number_of before)).told → ¬ IsOpen before.store → asked_at before.store.header.shape content ≡ Ok request
      → CanOpen before.store (old (number_of before)) ⊎ IsUnopenedReply before.store (old (number_of before)) (new (number_of before)) reply
  pub first : (request : Request) → IsTrue (old (number_of before)).told → ¬ (IsOpen before.store) → asked_at before.store.header.shape content ≡ Ok request
      → OpensOrShuts before.store after.store (old (number_of before)) (new (number_of before)) request reply
  pub behind : (request : Request) → IsOpen before.store → asked_at before.store.header.shape content ≡ Ok request
      → ChangesBehind before.store after.store (old (number_of before)) (new (number_of before)) request
  pub grown : (request : Request) → IsOpen before.store → asked_at before.store.header.shape content ≡ Ok request
      → GrowsOn before.store after.store (old (number_of before)) (new (number_of before)) request reply
  pub enters : (request : Request) → IsOpen before.store → asked_at before.store.header.shape content ≡ Ok request
      → EntersBy before.store after.store request reply
  pub opened : (request : Request) → IsOpen before.store → asked_at before.store.header.shape content ≡ Ok request
      → RepliesOpen old new faults_before faults_after request reply
  pub found : (request : Request) (named what : Fp) → asked_at before.store.header.shape content ≡ Ok request
      → IsReply reply (replies.Rotten named what)
      → IsFound (new (number_of before)) (memory_of after.store.memory) request named what
  pub call : IsCall old new (number_of before) faults_before faults_after

-- A server was opened, over the clouds of a shelf.
pub record Reopens (before after : Server) (old new : ℕ → Cloud) (faults_before faults_after : ℕ) (begin : Bool) (result : Result ℕ OpenErr) : Type 0 where
  pub same : after.store.header ≡ before.store.header
  pub opens : OnOk result (IsOpen after.store)
  pub shut : OnErr result (¬ (IsOpen after.store))
  pub counts : OnFault result
      (HasFailed (old (number_of before)) (new (number_of before)) faults_before faults_after)
      (KeepsCounts (old (number_of before)) (new (number_of before)) faults_before faults_after)
  pub not_begun : IsTrue (old (number_of before)).told → NotBegunIs (old (number_of before)) (new (number_of before)) begin result
  pub peer : (p : Peer) → IsTrue (old (number_of before)).told → IsServing before (old (number_of before)) p
      → (q : Peer) × IsServing after (new (number_of before)) q × ReopensAs begin p q result
  pub exact : IsTrue (old (number_of before)).told
      → OnFault result (Unit {0}) (Opens before.store.header begin (reads (old (number_of before)).now) (memory_of after.store.memory) result)
  pub other_store : IsTrue (old (number_of before)).told → OtherStoreIs ((old (number_of before)).now Journal).read before.store.header result
  pub areas : IsTrue (old (number_of before)).told → Spares before.store.header begin (old (number_of before)) (new (number_of before)) result
  pub begins : IsTrue begin → HasBegun result
  pub whole : IsTrue (old (number_of before)).told → (list : List Command) → StandsFor (reads (old (number_of before)).now) before.store.header list → IsWithin before.store.header.shape before.store.header.rooms list
      → MayBegin ((old (number_of before)).now Journal).read begin → IsOkOrFault result
  pub loaded : IsTrue (old (number_of before)).told → (list : List Command) → StandsFor (reads (old (number_of before)).now) before.store.header list
      → IsWithin before.store.header.shape before.store.header.rooms list
      → IfOk result (λ commands. (commands ≡ counted list) × IsServing after (new (number_of before)) (settled_with list (new (number_of before))))
  pub images : IsTrue (old (number_of before)).told → (lists : List (List Command))
      → ImagesNow (old (number_of before)) before.store.header (Contains lists)
      → ImagesSince (old (number_of before)) (new (number_of before)) before.store.header (Contains lists)
  pub call : IsCall old new (number_of before) faults_before faults_after
