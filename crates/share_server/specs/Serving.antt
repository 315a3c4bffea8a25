-- A server over its cloud, as a peer that users ask.
use Rattle.std.specs.Prelude.{◌≡◌, ◌≢◌, ◌⊎◌, ℕ, Bool, IsTrue, true, false, List, [], None, Result, Ok, Err}
use Rattle.server_requests.specs.CdBase.ids.Fp.{Fp}
use Rattle.server_requests.specs.CdBase.shape.Shape.{Shape}
use Rattle.server_requests.specs.CdEdges.Causes.{Rose}
use Rattle.server_requests.specs.CdEdges.area.Area.TheVariants.{Journal}
use Rattle.server_requests.specs.CdEdges.Disk.{Cloud, reads}
use Rattle.server_requests.specs.CdEdges.Shelf.{HasFailed, KeepsCounts}
use Rattle.server_requests.specs.CdEdges.Shelf.{Stays as StaysIn}
use Rattle.server_requests.specs.CommitJournal.errors.OpenErr.{OpenErr}
use Rattle.server_requests.specs.CommitJournal.errors.OpenErr.TheVariants as errors
use Rattle.server_requests.specs.CommitJournal.Openings.{OnFault}
use Rattle.server_requests.specs.Messages.request.Request.{Request}
use Rattle.server_requests.specs.Messages.reply.Reply.{Reply}
use Rattle.server_requests.specs.Messages.reply.Reply.TheVariants as replies
use Rattle.server_requests.specs.Messages.Answering.{IsReplyTo}
use Rattle.server_requests.specs.Messages.Replies.{IsReply}
use Rattle.server_requests.specs.UserDedup.command.Command.{Command}
use Rattle.server_requests.specs.UserDedup.Cloud.{counted}
use Rattle.server_requests.specs.UserDedup.Dedup.{Outcome}
use Rattle.server_requests.specs.UserDedup.Exec.{Peer, MaySettleAs, Settles, KeepsPeer, Exec, items_of}
use Rattle.server_requests.specs.UserDedup.Spending.{IsWithin}
use Rattle.blob_copy.specs.CloudAreas.Peers.{StandsAs}
use Rattle.blob_copy.specs.CloudAreas.Standing.{StandsFor}
use Rattle.blob_copy.specs.CloudOpening.CloudMemory.Rooms.{memory_of}
use Rattle.blob_copy.specs.CloudOpening.Exact.{Opens}
use Rattle.blob_copy.specs.CloudOpening.Spared.{IsOkOrFault, Spares}
use Rattle.server_requests.specs.CloudStore.store.CloudStore.{CloudStore}
use Rattle.server_requests.specs.CloudStore.Store.{IsOpen, ServesSome}
use Rattle.server_requests.specs.ServerCommands.Entering.{Enters}
use Rattle.server_requests.specs.CommitJournal.States.{IsJournalEnded}
use Rattle.server_requests.specs.ServerCommands.Executing.{GrowsBehind, LeavesBoth}
use Rattle.server_requests.specs.ServerCommands.Growing.{JournalGoesOn}
use Rattle.server_requests.specs.ServerCommands.JournalHalves.Journals.{Where}
use Rattle.server_requests.specs.ServerCommands.Leaving.{IsSteady}
use Rattle.server_requests.specs.ServerCommands.Serving.{serves}
use Rattle.share_server.specs.Openings.{OpensTo, OtherStoreIs}
use Rattle.share_server.specs.Refusals.{IsErrorReply}
use Rattle.share_server.specs.declared.server.Server.{Server}

-- ---- peers

-- The cloud below the store stands as the peer: each image now stands for the peer's list, or for it with the pending command, all within the
-- rooms. An open store serves the peer's list.
pub record ServesAs (store : CloudStore) (cloud : Cloud) (p : Peer) : Type 0 where
  pub stands : StandsAs cloud store.header p
  pub within : (list : List Command) → MaySettleAs p list → IsWithin store.header.shape store.header.rooms list
  pub ready : IsOpen store → ServesSome p.list store cloud

-- The cloud below the server does.
abbrev pub IsServing : Server → Cloud → Peer → Type 0
IsServing server cloud p = ServesAs server.store cloud p

-- the number of its cloud
abbrev pub number_of : Server → ℕ
number_of server = server.store.header.cloud.0

-- the peer of a list with nothing pending, and with the cloud's counts
abbrev pub settled_with : List Command → Cloud → Peer
settled_with list cloud = record { list = list; pending = None; faults = cloud.faults; armings = cloud.armings }

-- the reply of a list, and the command that a request adds to it
abbrev pub server_serves : Server → List Command → Request → Outcome
server_serves server = serves server.store

-- What an opening does to a peer: Ok settles it, and answers how many commands its list then has. Nothing else changes it: where a device failed
-- its count rose, and where the store isn't begun and isn't to be begun the peer may stand for no commands.
abbrev pub ReopensAs : Bool → Peer → Peer → Result ℕ OpenErr → Type 0
ReopensAs begin old new (Ok commands) = Settles old new × (new.faults ≡ old.faults) × (new.armings ≡ old.armings) × (commands ≡ counted new.list)
ReopensAs begin old new (Err errors.Fault) = KeepsPeer old new × Rose old.faults new.faults
    × (new.armings ≡ old.armings)
ReopensAs begin old new (Err (errors.NotBegun len)) = (new ≡ old) × (begin ≡ false) × MaySettleAs old []
ReopensAs begin old new (Err (errors.OtherStore found asked at)) = ⊥
ReopensAs begin old new (Err (errors.Damaged at byte)) = ⊥

-- The content is a reply that executes the request, and leaves the cloud below the new store as a peer. After any reply but Fault the store is open.
abbrev pub ExecutesAs : CloudStore → CloudStore → Cloud → Peer → Request → List ℕ → Type 0
ExecutesAs old new cloud p request content =
    (left : Peer) × (answer : Reply) × ServesAs new cloud left × IsReply content answer
    × Exec old.header.shape true (serves old) p request answer left × (answer ≢ replies.Fault → IsOpen new)

-- ---- whatever the cloud has

-- The content is a reply that some server gives to the request, and not that memory ran out. Fault comes only where a device failed, and the
-- store is closed then; with any other reply no count rose.
abbrev pub IsAnsweredContent : Shape → Request → CloudStore → Cloud → Cloud → ℕ → ℕ → List ℕ → Type 0
IsAnsweredContent shape request store old new before now content =
    (answer : Reply) × IsReply content answer × IsReplyTo (items_of shape request) request answer × (answer ≢ replies.NoMemory)
    × (answer ≡ replies.Fault → HasFailed old new before now × ¬ (IsOpen store)) × (answer ≢ replies.Fault → KeepsCounts old new before now)

-- an opening that ends so
abbrev pub some_commands : ℕ → Result ℕ OpenErr
some_commands commands = Ok commands

-- an opening that ends with this error
abbrev pub an_error : OpenErr → Result ℕ OpenErr
an_error error = Err error

-- The cloud of a closed store isn't opened for this error. Where the cloud is told: the error is what the bytes of its areas come to, record by
-- record, unless a device failed; OtherStore comes where its journal has another header, and else Fault alone comes where what it reads stands for
-- a list within the rooms; and the areas are spared, whatever they hold.
pub record IsUnopened (store : CloudStore) (old new : Cloud) (error : OpenErr) : Type 0 where
  pub closed : ¬ (IsOpen store)
  pub exact : IsTrue old.told → OnFault (an_error error) (Unit {0}) (OpensTo store.header true (reads old.now) (an_error error))
  pub other_store : IsTrue old.told → OtherStoreIs (old.now Journal).read store.header (an_error error)
  pub whole : IsTrue old.told → (list : List Command) → StandsFor (reads old.now) store.header list
      → IsWithin store.header.shape store.header.rooms list → IsOkOrFault (an_error error)
  pub areas : IsTrue old.told → Spares store.header true old new (an_error error)

-- The content is the reply to the error for which the cloud isn't opened.
pub record IsUnopenedReply (store : CloudStore) (old new : Cloud) (content : List ℕ) : Type 0 where
  pub error : OpenErr
  pub unopened : IsUnopened store old new error
  pub refuses : IsErrorReply error content

-- The bytes of the cloud's areas come to a list that the store takes, and it has so many commands.
abbrev pub CanOpen : CloudStore → Cloud → Type 0
CanOpen store cloud = (commands : ℕ) × OpensTo store.header true (reads cloud.now) (Ok commands)

-- Whatever the records say: the areas stay, or the current chain gets the request's record, or that behind the memory's checkpoint in its place, and all
-- that lay below the ends of both logs stays; and where the memory has it that the request adds nothing, areas and memory stay. The store is open
-- behind it, or the cloud's count rose.
pub record ChangesBehind (old new : CloudStore) (before after : Cloud) (request : Request) : Type 0 where
  pub behind : StaysIn before after ⊎ GrowsBehind old before after request
  pub steady : IsSteady (memory_of old.memory) request → LeavesBoth old new before after
  pub stays_open : Rose before.faults after.faults ⊎ IsOpen new

-- The store has read the cloud's journal to its end: the current half has some chain, and all of the area is on the disk.
abbrev pub IsReadToEnd : CloudStore → Cloud → Type 0
IsReadToEnd store cloud = (w : Where) × IsJournalEnded store.disk.journal (cloud.now Journal) w

-- Of a told cloud whose journal an open server has read to its end, with this chain: the count rose, or the journal is read to its end then too.
-- Where the reply says that a command was added it was: its record is the last one, and all that it places lies there, on the disk.
abbrev pub GrowsBy : Where → CloudStore → CloudStore → Cloud → Cloud → Request → List ℕ → Type 0
GrowsBy w old new before after request content = Rose before.faults after.faults ⊎ JournalGoesOn w old new before after request content

-- Whatever chain that is.
abbrev pub GrowsOn : CloudStore → CloudStore → Cloud → Cloud → Request → List ℕ → Type 0
GrowsOn old new before after request content = IsTrue before.told → (w : Where) → IsJournalEnded old.disk.journal (before.now Journal) w
    → GrowsBy w old new before after request content

-- The content is a reply that says of the memory before and behind the request just what is so; of Fault nothing is said.
abbrev pub EntersBy : CloudStore → CloudStore → Request → List ℕ → Type 0
EntersBy old new request content =
    (answer : Reply) × IsReply content answer × (answer ≢ replies.Fault → Enters old.header (memory_of old.memory) (memory_of new.memory) request answer)

-- Where the content is Rotten areas and memory stay, whatever was asked.
abbrev pub RottenLeaves : CloudStore → CloudStore → Cloud → Cloud → List ℕ → Type 0
RottenLeaves old new before after content = (named found : Fp) → IsReply content (replies.Rotten named found) → LeavesBoth old new before after

-- A closed store was opened first: what the areas come to, record by record, is its memory then, its journal was read to its end, and they were
-- spared. The request changed them behind that, and the reply speaks of that memory; behind Rotten they stay.
pub record OpensFirst (old new : CloudStore) (before after : Cloud) (request : Request) (content : List ℕ) : Type 0 where
  pub opened : CloudStore
  pub between : Cloud
  pub commands : ℕ
  pub header : opened.header ≡ old.header
  pub at_end : IsOpen opened
  pub exact : Opens old.header true (reads before.now) (memory_of opened.memory) (Ok commands)
  pub spares : Spares old.header true before between (some_commands commands)
  pub w : Where
  pub ended : IsJournalEnded opened.disk.journal (between.now Journal) w
  pub changes : ChangesBehind opened new between after request
  pub grown : GrowsBy w opened new between after request content
  pub enters : EntersBy opened new request content
  pub rotten_leaves : RottenLeaves opened new between after content
