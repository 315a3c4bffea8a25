-- What a request adds to a told cloud, whatever its records say: its record, as the server spells it, and what the record places.
use Rattle.std.specs.Prelude.{◌≡◌, ◌⊎◌, ℕ, ◌+◌, ◌≤◌, List, [], ◌∷◌, length, map, All, Option, Some, None}
use Rattle.std.specs.FinMap.{get}
use Rattle.server_reads.specs.CdBase.ids.Tag.{Tag}
use Rattle.server_reads.specs.CdBase.ids.UserId.{UserId}
use Rattle.server_reads.specs.CdBase.ids.Version.{Version}
use Rattle.server_reads.specs.CdEdges.area.Area.TheVariants.{Journal, Shares, Recipes}
use Rattle.server_reads.specs.CdEdges.Disk.{Store, Cloud}
use Rattle.server_reads.specs.CdEdges.Shelf.{stable}
use Rattle.server_reads.specs.ContainerLog.Laying.{Placed, placed, IsAt}
use Rattle.server_reads.specs.FileIndex.Files.{key_of}
use Rattle.server_reads.specs.Messages.request.Request.{Request}
use Rattle.server_reads.specs.Messages.request.Request.TheVariants as requests
use Rattle.server_reads.specs.Messages.reply.Reply.{Reply}
use Rattle.server_reads.specs.Messages.reply.Reply.TheVariants as replies
use Rattle.server_reads.specs.Messages.Replies.{IsReply}
use Rattle.server_reads.specs.UserDedup.Cloud.{fingerprint}
use Rattle.server_reads.specs.CloudMemory.Memory.{Memory}
use Rattle.server_reads.specs.CloudMemory.Rooms.{memory_of}
use Rattle.cloud_store.specs.CloudAreas.Placing.{shares_placed}
use Rattle.cloud_store.specs.CommitJournal.States.{IsJournalEnded}
use Rattle.cloud_store.specs.JournalHalves.Journals.{Where, with_body}
use Rattle.cloud_store.specs.RecordBody.Spelling as bodies
use Rattle.cloud_store.specs.RecordBody.Spelling.{Body, body_bytes}
use Rattle.cloud_store.specs.declared.store.CloudStore.{CloudStore}
use Rattle.cloud_store.specs.Adding.{put_record, commit_body, unplaced, share_at, summed}
use Rattle.server_commands.specs.Entering.{unowned, news_of}

-- ---- replies

-- to a Put: some shares were stored
abbrev pub StoresSome : Reply → Type 0
StoresSome (replies.Stored new) = 1 ≤ new
StoresSome reply = ⊥

-- The reply says that the request added its command: some shares were stored, a version was entered that had no entry, or one was taken out.
abbrev pub SaysAdded : Memory → Request → Reply → Type 0
SaysAdded m requests.Hello reply = ⊥
SaysAdded m (requests.Query user fps) reply = ⊥
SaysAdded m (requests.Put user shares) reply = StoresSome reply
SaysAdded m (requests.Commit user tag version recipe) reply = (reply ≡ replies.Committed) × (get m.files (key_of user.0 tag.0 version.0) ≡ None)
SaysAdded m (requests.GetRecipe user tag version) reply = ⊥
SaysAdded m (requests.GetShares user fps) reply = ⊥
SaysAdded m (requests.List user after) reply = ⊥
SaysAdded m (requests.Delete user tag version) reply = reply ≡ replies.Deleted

-- ---- records

-- a Commit's
abbrev pub commit_record : CloudStore → UserId → Tag → Version → List ℕ → Body
commit_record s user tag version recipe = bodies.Commit (commit_body s user tag version (fingerprint recipe) (length recipe))

-- the record of the command that a request may add, by what the store has; what only asks has none
abbrev pub record_of : CloudStore → Request → Option Body
record_of s requests.Hello = None
record_of s (requests.Query user fps) = None
record_of s (requests.Put user shares) = Some (put_record s user (news_of (memory_of s.memory) user shares))
record_of s (requests.Commit user tag version recipe) = Some (commit_record s user tag version recipe)
record_of s (requests.GetRecipe user tag version) = None
record_of s (requests.GetShares user fps) = None
record_of s (requests.List user after) = None
record_of s (requests.Delete user tag version) = Some (bodies.Delete (record { user = user; tag = tag; version = version }))

-- the shares of a Put that are new to its user
abbrev pub new_to : Memory → Request → List (List ℕ)
new_to m requests.Hello = []
new_to m (requests.Query user fps) = []
new_to m (requests.Put user shares) = unowned m user shares
new_to m (requests.Commit user tag version recipe) = []
new_to m (requests.GetRecipe user tag version) = []
new_to m (requests.GetShares user fps) = []
new_to m (requests.List user after) = []
new_to m (requests.Delete user tag version) = []

-- a Commit's recipe
abbrev pub recipe_of : Request → List (List ℕ)
recipe_of requests.Hello = []
recipe_of (requests.Query user fps) = []
recipe_of (requests.Put user shares) = []
recipe_of (requests.Commit user tag version recipe) = recipe ∷ []
recipe_of (requests.GetRecipe user tag version) = []
recipe_of (requests.GetShares user fps) = []
recipe_of (requests.List user after) = []
recipe_of (requests.Delete user tag version) = []

-- what is new and has no place yet, each at its place behind the end of its area: shares, and a recipe
abbrev pub shares_of : Memory → Request → List Placed
shares_of m request = placed m.shares_end (unplaced m.places (new_to m request))

abbrev pub recipes_of : Memory → Request → List Placed
recipes_of m request = placed m.recipes_end (recipe_of request)

-- ---- areas

-- where there is a new blob all of the area is on the disk, and else it is as it was
abbrev pub IsSyncedForBlobs : List Placed → Store → Store → Type 0
IsSyncedForBlobs [] before after = after ≡ before
IsSyncedForBlobs (blob ∷ blobs) before after = after ≡ stable after.read

-- These blobs lie in the area, on the disk. Each that lay in front of this end lies there still.
pub record Gains (end : ℕ) (blobs : List Placed) (before after : Store) : Type 0 where
  pub lie : All (IsAt after.read) blobs
  pub on_disk : IsSyncedForBlobs blobs before after
  pub kept : (b : Placed) → b.place + length b.blob ≤ end → IsAt before.read b → IsAt after.read b

-- The request's command was added. Its record is the last one behind the chain that was read, or behind the memory's checkpoint in its place,
-- and all of the journal is on the disk. What the record places lies there, each share the one that has its fingerprint.
pub record HasCommandAdded (w : Where) (old new : CloudStore) (before after : Cloud) (request : Request) : Type 0 where
  pub body : Body
  pub is : record_of old request ≡ Some body
  pub chain : IsJournalEnded new.disk.journal (after.now Journal) (with_body w (body_bytes body))
      ⊎ IsJournalEnded new.disk.journal (after.now Journal) (with_body (summed old w) (body_bytes body))
  pub places : map (share_at (new_to (memory_of old.memory) request)) (shares_placed body) ≡ shares_of (memory_of old.memory) request
  pub shares : Gains old.disk.shares.end (shares_of (memory_of old.memory) request) (before.now Shares) (after.now Shares)
  pub recipes : Gains old.disk.recipes.end (recipes_of (memory_of old.memory) request) (before.now Recipes) (after.now Recipes)

-- The journal was read to its end, with this chain, and is so then too, with some chain. Where the reply says that the command was added, it was.
pub record JournalGoesOn (w : Where) (old new : CloudStore) (before after : Cloud) (request : Request) (content : List ℕ) : Type 0 where
  pub next : Where
  pub ended : IsJournalEnded new.disk.journal (after.now Journal) next
  pub added : (answer : Reply) → SaysAdded (memory_of old.memory) request answer → IsReply content answer → HasCommandAdded w old new before after request
