-- What the steps of a request leave. No public clause cites this module.
use Rattle.std.specs.Prelude.{◌≡◌, ◌≢◌, ◌⊎◌, ℕ, true, List, Result, Ok, Err}
use Rattle.server_requests.specs.CdEdges.Causes.{Rose}
use Rattle.server_requests.specs.CdEdges.area.Area.TheVariants.{Journal}
use Rattle.server_requests.specs.CdEdges.Disk.{Cloud, reads}
use Rattle.server_requests.specs.CommitJournal.States.{IsJournalEnded}
use Rattle.server_requests.specs.ServerCommands.JournalHalves.Journals.{Where}
use Rattle.server_requests.specs.CommitJournal.errors.OpenErr.{OpenErr}
use Rattle.server_requests.specs.CommitJournal.errors.OpenErr.TheVariants as errors
use Rattle.server_requests.specs.Messages.request.Request.{Request}
use Rattle.server_requests.specs.Messages.reply.Reply.{Reply}
use Rattle.server_requests.specs.Messages.reply.Reply.TheVariants as replies
use Rattle.server_requests.specs.Messages.Replies.{IsReply}
use Rattle.server_requests.specs.UserDedup.command.Command.{Command}
use Rattle.server_requests.specs.UserDedup.Dedup.{Outcome}
use Rattle.server_requests.specs.UserDedup.Exec.{Peer, Settles, KeepsPeer, CountsOn, Answers, IsCut}
use Rattle.blob_copy.specs.CloudOpening.CloudMemory.Rooms.{memory_of}
use Rattle.blob_copy.specs.CloudOpening.Exact.{Opens}
use Rattle.blob_copy.specs.CloudOpening.Spared.{Spares}
use Rattle.server_requests.specs.CloudStore.store.CloudStore.{CloudStore}
use Rattle.server_requests.specs.CloudStore.Store.{IsOpen}
use Rattle.server_requests.specs.ServerCommands.Serving.{serves}
use Rattle.share_server.specs.Serving.{ServesAs, some_commands}

-- What becomes of a peer whose server is open then, or isn't where a device failed.
abbrev pub OpensAs : Peer → Peer → Result (Unit {0}) OpenErr → Type 0
OpensAs old new (Ok value) = Settles old new × (new.faults ≡ old.faults) × (new.armings ≡ old.armings)
OpensAs old new (Err errors.Fault) = KeepsPeer old new × Rose old.faults new.faults × (new.armings ≡ old.armings)
OpensAs old new (Err (errors.NotBegun len)) = ⊥
OpensAs old new (Err (errors.OtherStore found asked at)) = ⊥
OpensAs old new (Err (errors.Damaged at byte)) = ⊥

-- A device failed in this call: the cloud settles, and the command that the request would add is pending.
pub record Cuts (serve : List Command → Request → Outcome) (old : Peer) (request : Request) (reply : Reply) (new : Peer) : Type 0 where
  pub reply_is : reply ≡ replies.Fault
  pub rose : Rose old.faults new.faults
  pub cut : IsCut serve old request new

-- What an open server does with a request, whose content is this.
pub record HasDoneRequest (old new : CloudStore) (cloud : Cloud) (p : Peer) (request : Request)
    (content : List ℕ) : Type 0 where
  pub left : Peer
  pub answer : Reply
  pub stands : ServesAs new cloud left
  pub content_is : IsReply content answer
  pub counts : CountsOn p left
  pub does : Answers (serves old) p request answer left ⊎ Cuts (serves old) p request answer left
  pub opened : answer ≢ replies.Fault → IsOpen new

-- A closed store was opened: its memory is what the areas come to, record by record, its journal was read to its end, and they were spared.
pub record IsOpenedBy (old new : CloudStore) (before after : Cloud) : Type 0 where
  pub commands : ℕ
  pub exact : Opens old.header true (reads before.now) (memory_of new.memory) (Ok commands)
  pub spares : Spares old.header true before after (some_commands commands)
  pub w : Where
  pub ended : IsJournalEnded new.disk.journal (after.now Journal) w
