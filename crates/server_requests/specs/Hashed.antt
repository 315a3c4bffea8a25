-- What is given has the fingerprint that was asked for, whatever the cloud has and is told of.
use Rattle.std.specs.Prelude.{◌≡◌, List, map}
use Rattle.server_commands.specs.CdBase.ids.Fp.{Fp}
use Rattle.server_commands.specs.FileIndex.key.FileKey.{FileKey}
use Rattle.server_commands.specs.FileIndex.Files.{key_of}
use Rattle.server_commands.specs.Messages.request.Request.{Request}
use Rattle.server_commands.specs.Messages.request.Request.TheVariants as requests
use Rattle.server_commands.specs.Messages.reply.Reply.{Reply}
use Rattle.server_commands.specs.Messages.reply.Reply.TheVariants as replies
use Rattle.server_commands.specs.UserDedup.Cloud.{fingerprint}
use Rattle.server_commands.specs.ServerReads.CloudMemory.Memory.{Memory}
use Rattle.server_commands.specs.ServerReads.Found.{AreEntryBytes}

-- shares have these fingerprints
abbrev pub AreAsked : List Fp → Reply → Type 0
AreAsked fps (replies.Shares shares) = map fingerprint shares ≡ fps
AreAsked fps reply = Unit {0}

-- a recipe has the fingerprint of the entry that the memory has of a key
abbrev pub IsOfEntry : Memory → FileKey → Reply → Type 0
IsOfEntry m key (replies.Recipe bytes) = AreEntryBytes m key bytes
IsOfEntry m key reply = Unit {0}

-- The shares that a reply gives to GetShares have just the fingerprints that were asked for, and the recipe that it gives to GetRecipe has
-- that of the memory's entry.
abbrev pub IsHashed : Memory → Request → Reply → Type 0
IsHashed m requests.Hello reply = Unit {0}
IsHashed m (requests.Query user fps) reply = Unit {0}
IsHashed m (requests.Put user shares) reply = Unit {0}
IsHashed m (requests.Commit user tag version recipe) reply = Unit {0}
IsHashed m (requests.GetRecipe user tag version) reply = IsOfEntry m (key_of user.0 tag.0 version.0) reply
IsHashed m (requests.GetShares user fps) reply = AreAsked fps reply
IsHashed m (requests.List user after) reply = Unit {0}
IsHashed m (requests.Delete user tag version) reply = Unit {0}
