-- Replies after which nothing has changed, and no device was called; requests that add nothing by what the memory has; and what a reply
-- says that names a share or an entry.
use Rattle.std.specs.Prelude.{◌≡◌, ◌≢◌, None, IsSome, map}
use Rattle.std.specs.FinMap.{get}
use Rattle.std.specs.List.{Contains}
use Rattle.server_reads.specs.CdBase.ids.Fp.{Fp}
use Rattle.server_reads.specs.CdBase.rooms.Room.TheVariants as rooms
use Rattle.server_reads.specs.CdEdges.Disk.{Cloud}
use Rattle.server_reads.specs.FileIndex.Files.{key_of}
use Rattle.server_reads.specs.Messages.request.Request.{Request}
use Rattle.server_reads.specs.Messages.request.Request.TheVariants as requests
use Rattle.server_reads.specs.Messages.reply.Reply.{Reply}
use Rattle.server_reads.specs.Messages.reply.Reply.TheVariants as replies
use Rattle.server_reads.specs.UserDedup.Cloud.{fingerprint}
use Rattle.server_reads.specs.CloudMemory.Memory.{Memory}
use Rattle.server_reads.specs.CloudMemory.Sharing.{AreOwned}
use Rattle.server_reads.specs.Found.{IsFoundRecipe, IsFoundShare}

-- to Put: no share is new, or a room of the user's is too small
abbrev pub StoresNothing : Reply → Type 0
StoresNothing (replies.Stored new) = new ≡ 0
StoresNothing (replies.Full room used need limit) = room ≢ rooms.Journal
StoresNothing reply = ⊥

-- to Commit: an item lacks, or a room of the user's is too small
abbrev pub EntersNothing : Reply → Type 0
EntersNothing (replies.Lacking place) = Unit {0}
EntersNothing (replies.Full room used need limit) = room ≢ rooms.Journal
EntersNothing reply = ⊥

-- to GetRecipe and Delete: there is no such version
abbrev pub FindsNone : Reply → Type 0
FindsNone replies.Missing = Unit {0}
FindsNone reply = ⊥

-- to GetShares: a fingerprint isn't the user's
abbrev pub FindsForeign : Reply → Type 0
FindsForeign (replies.NotYours place) = Unit {0}
FindsForeign reply = ⊥

-- The reply to the request says that it stores, enters, takes out or reads nothing. Requests that a server answers by its memory alone
-- aren't meant.
abbrev pub LeavesAll : Request → Reply → Type 0
LeavesAll requests.Hello reply = ⊥
LeavesAll (requests.Query user fps) reply = ⊥
LeavesAll (requests.Put user shares) reply = StoresNothing reply
LeavesAll (requests.Commit user tag version recipe) reply = EntersNothing reply
LeavesAll (requests.GetRecipe user tag version) reply = FindsNone reply
LeavesAll (requests.GetShares user fps) reply = FindsForeign reply
LeavesAll (requests.List user after) reply = ⊥
LeavesAll (requests.Delete user tag version) reply = FindsNone reply

-- By what the memory has the request adds nothing: it asks alone; the user owns each share of a Put; there is an entry of a Commit's key, or
-- none of a Delete's.
abbrev pub IsSteady : Memory → Request → Type 0
IsSteady m requests.Hello = Unit {0}
IsSteady m (requests.Query user fps) = Unit {0}
IsSteady m (requests.Put user shares) = AreOwned m.owners user (map fingerprint shares)
IsSteady m (requests.Commit user tag version recipe) = IsSome (get m.files (key_of user.0 tag.0 version.0))
IsSteady m (requests.GetRecipe user tag version) = Unit {0}
IsSteady m (requests.GetShares user fps) = Unit {0}
IsSteady m (requests.List user after) = Unit {0}
IsSteady m (requests.Delete user tag version) = get m.files (key_of user.0 tag.0 version.0) ≡ None

-- What the reply Rotten says of a share or a recipe: it names one that the request asks for, or the entry of a Commit's or a Delete's key, and
-- the other fingerprint is that of what lies at its place. A Put never gives it.
abbrev pub IsFound : Cloud → Memory → Request → Fp → Fp → Type 0
IsFound cloud m requests.Hello named found = Unit {0}
IsFound cloud m (requests.Query user fps) named found = Unit {0}
IsFound cloud m (requests.Put user shares) named found = ⊥
IsFound cloud m (requests.Commit user tag version recipe) named found = IsFoundRecipe cloud m (key_of user.0 tag.0 version.0) named found
IsFound cloud m (requests.GetRecipe user tag version) named found = IsFoundRecipe cloud m (key_of user.0 tag.0 version.0) named found
IsFound cloud m (requests.GetShares user fps) named found = Contains fps named × IsFoundShare cloud m named found
IsFound cloud m (requests.List user after) named found = Unit {0}
IsFound cloud m (requests.Delete user tag version) named found = IsFoundRecipe cloud m (key_of user.0 tag.0 version.0) named found
