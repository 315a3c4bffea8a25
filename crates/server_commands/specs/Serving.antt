-- What one request does to an open store by a list that it serves, and which replies it may give.
use Rattle.std.specs.Prelude.{◌≡◌, ◌≢◌, ◌⊎◌, ℕ, List, [], ◌∷◌, ◌++◌, Some, option_to_list}
use Rattle.server_reads.specs.CdBase.shape.Shape.{Shape}
use Rattle.server_reads.specs.CdEdges.Disk.{Cloud}
use Rattle.server_reads.specs.Messages.request.Request.{Request}
use Rattle.server_reads.specs.Messages.reply.Reply.{Reply}
use Rattle.server_reads.specs.Messages.reply.Reply.TheVariants as replies
use Rattle.server_reads.specs.Messages.Answering.{IsReplyTo}
use Rattle.server_reads.specs.Messages.Replies.{IsReply, reply_bytes}
use Rattle.server_reads.specs.UserDedup.command.Command.{Command}
use Rattle.server_reads.specs.UserDedup.Dedup.{Outcome}
use Rattle.server_reads.specs.UserDedup.Exec.{items_of}
use Rattle.cloud_store.specs.declared.store.CloudStore.{CloudStore}
use Rattle.cloud_store.specs.Store.{ServesSome}
use Rattle.server_reads.specs.UserDedup.Served.{served_by}

-- the reply by a list, and the command that it adds
abbrev pub serves : CloudStore → List Command → Request → Outcome
serves s = served_by s.header.rooms s.header.shape s.header.cloud.0

-- The content is the reply that the list gives, and the store serves the list with what the request adds.
pub record IsServedByList (old new : CloudStore) (cloud : Cloud) (list : List Command) (request : Request) (content : List ℕ) : Type 0 where
  pub reply : content ≡ reply_bytes (serves old list request).reply
  pub next : ServesSome (list ++ option_to_list (serves old list request).adds) new cloud

-- the list, or the list with the command that the request adds
abbrev pub IsServedOrNot : CloudStore → List Command → Request → List Command → Type 0
IsServedOrNot s list request other =
    (other ≡ list) ⊎ ((command : Command) × ((serves s list request).adds ≡ Some command) × (other ≡ list ++ command ∷ []))

-- a reply that some open server gives to the request: it says neither that a device failed, nor that the journal is damaged, nor that
-- memory ran out
pub record IsGiven (shape : Shape) (request : Request) (reply : Reply) : Type 0 where
  pub kind : IsReplyTo (items_of shape request) request reply
  pub memory : reply ≢ replies.NoMemory
  pub fault : reply ≢ replies.Fault
  pub damaged : (at byte : ℕ) → reply ≢ replies.Damaged at byte

-- The content is such a reply.
pub record GivesReply (shape : Shape) (request : Request) (content : List ℕ) : Type 0 where
  pub reply : Reply
  pub is : IsReply content reply
  pub given : IsGiven shape request reply
