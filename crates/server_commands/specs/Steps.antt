-- What the steps of a request leave. No public clause cites this module.
use Rattle.std.specs.Prelude.{[], ◌∷◌, bytes_eq, if◌then◌else◌, ◌≡◌, ℕ, List, None, Some, IsTrue, Result, OnOk, OnErr}
use Rattle.server_reads.specs.CdBase.ids.Tag.{Tag}
use Rattle.server_reads.specs.CdBase.ids.UserId.{UserId}
use Rattle.server_reads.specs.CdBase.ids.Version.{Version}
use Rattle.server_reads.specs.CdBase.rooms.Room.TheVariants as rooms
use Rattle.server_reads.specs.CdBase.shape.Shape.{Shape}
use Rattle.server_reads.specs.CdEdges.area.Area.TheVariants.{Journal}
use Rattle.server_reads.specs.CdEdges.Disk.{Cloud}
use Rattle.server_reads.specs.CdEdges.Shelf.{IsCall, HasFailed, KeepsCounts}
use Rattle.server_reads.specs.ContainerLog.States.{HasStaged, with_blob}
use Rattle.server_reads.specs.FileIndex.key.FileKey.{FileKey}
use Rattle.cloud_store.specs.JournalStart.start.Header.{Header}
use Rattle.server_reads.specs.Messages.request.Request.{Request}
use Rattle.server_reads.specs.Messages.request.Request.TheVariants as requests
use Rattle.server_reads.specs.Messages.reply.Reply.{Reply}
use Rattle.server_reads.specs.Messages.reply.Reply.TheVariants as replies
use Rattle.server_reads.specs.UserDedup.command.Command.{Command}
use Rattle.server_reads.specs.UserDedup.command.Command.TheVariants as commands
use Rattle.server_reads.specs.UserDedup.Dedup.{answer_over}
use Rattle.server_reads.specs.UserDedup.Requests.{HasRecipe, fps_of}
use Rattle.server_reads.specs.UserDedup.file_list.FileEntry.{FileEntry}
use Rattle.server_reads.specs.UserDedup.Pages.{entry_at}
use Rattle.cloud_store.specs.CloudAreas.Peers.{ImagesSince}
use Rattle.cloud_store.specs.CloudAreas.Standing.{Chain}
use Rattle.cloud_store.specs.declared.store.CloudStore.{CloudStore}
use Rattle.cloud_store.specs.Store.{IsOpen, IsSettled, EndsMeet, Serves}
use Rattle.server_reads.specs.CloudMemory.rooms.New.{New}
use Rattle.server_reads.specs.CloudMemory.Memory.{Memory}
use Rattle.server_reads.specs.CloudMemory.News.{AreOf}
use Rattle.server_reads.specs.CloudMemory.Steps.{without_entry}
use Rattle.server_reads.specs.CloudMemory.Rooms.{memory_of}
use Rattle.cloud_store.specs.Adding.{NoneStaged, unplaced, IsGrownFrom}
use Rattle.cloud_store.specs.CommitJournal.States.{IsJournalEnded}
use Rattle.cloud_store.specs.JournalHalves.Journals.{Where}
use Rattle.server_reads.specs.declared.blobs.BlobStop.{BlobStop}
use Rattle.server_reads.specs.Reading.{IfRotten}
use Rattle.server_commands.specs.Executing.{IsStoreReady, LeavesBoth}
use Rattle.server_commands.specs.Serving.{serves, IsServedByList, IsServedOrNot}

-- ---- calls of a device

-- One cloud was called alone; its counts rose where a call failed, and else stayed.
pub record Calls {T E : Type 0} (old new : ℕ → Cloud) (number before now : ℕ) (result : Result T E) : Type 0 where
  pub call : IsCall old new number before now
  pub failed : OnErr result (HasFailed (old number) (new number) before now)
  pub counts : OnOk result (KeepsCounts (old number) (new number) before now)

-- ---- the store

-- It is settled with nothing staged; ready after Ok, and shut after Failed.
pub record IsLeftSettled {T E : Type 0} (old new : CloudStore) (result : Result T E) : Type 0 where
  pub ready : OnOk result (IsStoreReady new)
  pub settled : IsSettled new
  pub none : NoneStaged new
  pub shut : OnErr result (¬ IsOpen new)
  pub header : new.header ≡ old.header

-- A request is served by a list that the store serves.
pub record DoesByList {T E : Type 0} (old new : CloudStore) (before after : Cloud) (list : List Command) (request : Request) (content : List ℕ) (result : Result T E) : Type 0 where
  pub any_moment : ImagesSince before after old.header (IsServedOrNot old list request)
  pub served : OnOk result (IsServedByList old new after list request content)
  pub stays : (serves old list request).adds ≡ None → LeavesBoth old new before after

-- ---- whatever the records say

-- The journal was read to its end, with this chain, and is so then too. Where the command was acknowledged its record was added.
pub record LeavesRead (w : Where) (old new : CloudStore) (body : List ℕ) (before after : Cloud) (Acknowledged : Type 0) : Type 0 where
  pub next : Where
  pub ended : IsJournalEnded new.disk.journal (after.now Journal) next
  pub grown : Acknowledged → IsGrownFrom w old new body before after

-- Whatever the chain that was read says.
abbrev pub GoesBehind : {T E : Type 0} → CloudStore → CloudStore → List ℕ → Cloud → Cloud → Type 0 → Result T E → Type 0
GoesBehind old new body before after Acknowledged result = IsTrue before.told → (w : Where) → IsJournalEnded old.disk.journal (before.now Journal) w
    → OnOk result (LeavesRead w old new body before after Acknowledged)

-- ---- reading

-- Of the store only the containers have changed that the log of the recipes keeps; it is what it was else, and serves what it served.
pub record HasOnlyReadRecipes (old new : CloudStore) (before after : Cloud) : Type 0 where
  pub same : new ≡ record old { disk = record old.disk { recipes = record old.disk.recipes { kept = new.disk.recipes.kept } } }
  pub serves : (list : List Command) (c : Chain) → Serves list c old before → Serves list c new after

-- By a list the key has a file: after Ok the bytes are its recipe, and Rotten never comes.
pub record ReadsFile (files : List FileEntry) (key : Tag × Version) (bytes : List ℕ) (result : Result (Unit {0}) BlobStop) : Type 0 where
  pub file : FileEntry
  pub here : entry_at files key ≡ Some file
  pub given : OnOk result (bytes ≡ file.recipe)
  pub never : IfRotten result (λ named found. ⊥)

-- ---- replies

-- to a Delete of a version that is there
abbrev pub IsOfDelete : Reply → Type 0
IsOfDelete replies.Deleted = Unit {0}
IsOfDelete (replies.Full room used need limit) = room ≡ rooms.Journal
IsOfDelete reply = ⊥

-- to a Delete of a version that is there and has this recipe: the entry is gone, or nothing has changed
abbrev pub Forgets : Shape → Memory → Memory → UserId → FileKey → List ℕ → Reply → Type 0
Forgets shape m new user key recipe replies.Deleted = new ≡ without_entry (fps_of shape recipe) user key m
Forgets shape m new user key recipe (replies.Full room used need limit) = (room ≡ rooms.Journal) × (new ≡ m)
Forgets shape m new user key recipe reply = ⊥

-- to a Commit of a version that has no entry
abbrev pub IsOfNew : Reply → Type 0
IsOfNew replies.Committed = Unit {0}
IsOfNew (replies.Full room used need limit) = Unit {0}
IsOfNew reply = ⊥

-- to a Commit of a version that has an entry, by the recipe that is there
abbrev pub by_recipe : List ℕ → List ℕ → Reply
by_recipe there recipe = if bytes_eq there recipe then replies.Committed else replies.Exists

-- ---- a Commit

-- the store with the recipe staged
abbrev pub staging : CloudStore → List ℕ → CloudStore
staging s recipe = record s { disk = record s.disk { recipes = with_blob s.disk.recipes recipe } }

-- An open store in which just this recipe is staged, and whose logs end where its memory says.
pub record HasRecipeStaged (s : CloudStore) (recipe : List ℕ) : Type 0 where
  pub settled : IsSettled s
  pub at_end : IsOpen s
  pub meet : EndsMeet s
  pub shares : HasStaged s.disk.shares []
  pub recipes : HasStaged s.disk.recipes (recipe ∷ [])

-- By the list the request adds its command.
pub record IsAnsweredNew (header : Header) (list : List Command) (user : UserId) (tag : Tag) (version : Version) (recipe : List ℕ) : Type 0 where
  pub has_recipe : HasRecipe header.shape (requests.Commit user tag version recipe)
  pub answer : answer_over header.shape header.cloud.0 list (requests.Commit user tag version recipe)
      ≡ record { reply = replies.Committed; adds = Some (commands.Commit user tag version recipe) }

-- ---- a Put

-- An open store in which of these shares just those are staged, in their order, that have no place yet; its logs end where its memory says.
pub record HasNewsStaged (s : CloudStore) (news : List New) : Type 0 where
  pub settled : IsSettled s
  pub at_end : IsOpen s
  pub meet : EndsMeet s
  pub strings : List (List ℕ)
  pub are_of : AreOf news strings
  pub shares : HasStaged s.disk.shares (unplaced (memory_of s.memory).places strings)
  pub recipes : HasStaged s.disk.recipes []
