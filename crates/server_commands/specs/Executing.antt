-- One request that may add a command, executed by an open store.
use Rattle.std.specs.Prelude.{◌≡◌, ◌⊎◌, ℕ, List, Some, None, IsTrue, Result, OnOk, OnErr}
use Rattle.server_reads.specs.CdBase.ids.Fp.{Fp}
use Rattle.server_reads.specs.CdEdges.area.Area.TheVariants.{Journal}
use Rattle.server_reads.specs.CdEdges.Disk.{Cloud}
use Rattle.server_reads.specs.CdEdges.Shelf.{IsCall, HasFailed, KeepsCounts, Stays}
use Rattle.server_reads.specs.Messages.request.Request.{Request}
use Rattle.server_reads.specs.Messages.reply.Reply.{Reply}
use Rattle.server_reads.specs.Messages.reply.Reply.TheVariants as replies
use Rattle.server_reads.specs.Messages.Replies.{IsReply}
use Rattle.server_reads.specs.UserDedup.command.Command.{Command}
use Rattle.cloud_store.specs.CloudAreas.Peers.{ImagesSince}
use Rattle.cloud_store.specs.CommitJournal.States.{IsJournalEnded}
use Rattle.cloud_store.specs.JournalHalves.Journals.{Where}
use Rattle.cloud_store.specs.RecordBody.Spelling.{Body, body_bytes}
use Rattle.server_reads.specs.CloudMemory.Rooms.{memory_of}
use Rattle.cloud_store.specs.declared.store.CloudStore.{CloudStore}
use Rattle.cloud_store.specs.Store.{IsOpen, IsSettled, EndsMeet, ServesSome}
use Rattle.cloud_store.specs.Adding.{NoneStaged, KeepsOrGrows}
use Rattle.server_commands.specs.Growing.{record_of, JournalGoesOn}
use Rattle.server_commands.specs.Leaving.{LeavesAll, IsSteady, IsFound}
use Rattle.server_commands.specs.Serving.{serves, IsServedByList, IsServedOrNot, GivesReply}

-- What holds of an open store between two requests: nothing is staged, and both logs end where the memory says.
pub record IsStoreReady (s : CloudStore) : Type 0 where
  pub settled : IsSettled s
  pub at_end : IsOpen s
  pub none : NoneStaged s
  pub meet : EndsMeet s

-- Each list that the store serves has this.
abbrev pub ForServed : CloudStore → Cloud → (List Command → Type 0) → Type 0
ForServed s cloud P = (list : List Command) → ServesSome list s cloud → P list

-- Whatever the records say: each image since has the chain that was read, or the memory's checkpoint in its place, or one of the two with the
-- request's record; and all that lay below the ends of both logs.
pub record GrowsBehind (old : CloudStore) (before after : Cloud) (request : Request) : Type 0 where
  pub body : Body
  pub is : record_of old request ≡ Some body
  pub chain : KeepsOrGrows old (body_bytes body) before after

-- The cloud's areas and the memory stay.
pub record LeavesBoth (old new : CloudStore) (before after : Cloud) : Type 0 where
  pub cloud : Stays before after
  pub memory : new.memory ≡ old.memory

-- What an open store does with a request, and leaves. The clouds are those by their numbers, with the count of all faults; `Same` says that no
-- device was called.
pub record Executes {T E : Type 0} (Same : Type 0) (old new : CloudStore) (before after : ℕ → Cloud) (faults_before faults_after : ℕ) (request : Request) (content : List ℕ) (result : Result T E) : Type 0 where
  -- what the store is then
  pub ready : OnOk result (IsStoreReady new)
  pub settled : IsSettled new
  pub none : NoneStaged new
  pub shut : OnErr result (¬ IsOpen new)
  pub header : new.header ≡ old.header
  -- by each list that the store serves
  pub any_moment : ForServed old (before old.header.cloud.0) (λ list. ImagesSince (before old.header.cloud.0) (after old.header.cloud.0) old.header (IsServedOrNot old list request))
  pub served : ForServed old (before old.header.cloud.0) (λ list. OnOk result (IsServedByList old new (after old.header.cloud.0) list request content))
  pub stays : ForServed old (before old.header.cloud.0) (λ list. (serves old list request).adds ≡ None → LeavesBoth old new (before old.header.cloud.0) (after old.header.cloud.0))
  -- whatever the cloud has
  pub behind : Stays (before old.header.cloud.0) (after old.header.cloud.0) ⊎ GrowsBehind old (before old.header.cloud.0) (after old.header.cloud.0) request
  pub grown : IsTrue (before old.header.cloud.0).told → (w : Where) → IsJournalEnded old.disk.journal ((before old.header.cloud.0).now Journal) w
      → OnOk result (JournalGoesOn w old new (before old.header.cloud.0) (after old.header.cloud.0) request content)
  pub steady : IsSteady (memory_of old.memory) request → LeavesBoth old new (before old.header.cloud.0) (after old.header.cloud.0)
  pub spared : (named found : Fp) → OnOk result (IsReply content (replies.Rotten named found) → LeavesBoth old new (before old.header.cloud.0) (after old.header.cloud.0))
  pub rotten : (named found : Fp) → OnOk result (IsReply content (replies.Rotten named found) → IsFound (before old.header.cloud.0) (memory_of old.memory) request named found)
  pub found : (named found : Fp) → OnOk result (IsReply content (replies.Rotten named found) → IsFound (after old.header.cloud.0) (memory_of new.memory) request named found)
  pub untouched : (answer : Reply) → LeavesAll request answer → OnOk result (IsReply content answer → Same × (new ≡ old))
  pub kind : OnOk result (GivesReply old.header.shape request content)
  -- the calls of the device
  pub call : IsCall before after old.header.cloud.0 faults_before faults_after
  pub failed : OnErr result (HasFailed (before old.header.cloud.0) (after old.header.cloud.0) faults_before faults_after)
  pub uncounted : OnOk result (KeepsCounts (before old.header.cloud.0) (after old.header.cloud.0) faults_before faults_after)
