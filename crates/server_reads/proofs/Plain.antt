-- Each reply that may come is one for its request.
use Rattle.std.proofs.Common.{◌≡◌, ℕ, List, length, Option, ap, sym, ◌∙◌}
use Rattle.std.proofs.lemmas.List.{length-map}
use Rattle.cloud_memory.specs.CdBase.ids.Fp.{Fp}
use Rattle.cloud_memory.specs.CdBase.ids.Tag.{Tag}
use Rattle.cloud_memory.specs.CdBase.ids.UserId.{UserId}
use Rattle.cloud_memory.specs.CdBase.ids.Version.{Version}
use Rattle.messages.specs.declared.request.Request.TheVariants as requests
use Rattle.messages.specs.declared.reply.Reply.{Reply}
use Rattle.messages.specs.declared.reply.Reply.TheVariants as replies
use Rattle.cloud_memory.specs.UserDedup.Cloud.{fingerprint}
use Rattle.server_reads.specs.Allowed.{KnownReply, EntriesReply, SharesReply, RecipeReply, IsPlain}

pub known_plain : (user : UserId) (fps : List Fp) (reply : Reply) → KnownReply fps reply → IsPlain (requests.Query user fps) reply
known_plain user fps (replies.Hello n k cloud format) r = absurd r
known_plain user fps (replies.Known flags) r = record { kind = λ items. r; memory = λ e. let no : replies.Known flags ≡ replies.NoMemory = e in cc; fault = λ e. let no : replies.Known flags ≡ replies.Fault = e in cc; damaged = λ at byte e. let no : replies.Known flags ≡ replies.Damaged at byte = e in cc }
known_plain user fps (replies.Stored new) r = absurd r
known_plain user fps replies.Committed r = absurd r
known_plain user fps replies.Exists r = absurd r
known_plain user fps (replies.Lacking place) r = absurd r
known_plain user fps (replies.Recipe bytes) r = absurd r
known_plain user fps replies.Missing r = absurd r
known_plain user fps replies.Deleted r = absurd r
known_plain user fps (replies.Shares shares) r = absurd r
known_plain user fps (replies.NotYours place) r = absurd r
known_plain user fps (replies.Entries keys) r = absurd r
known_plain user fps (replies.Full room used need limit) r = absurd r
known_plain user fps replies.Fault r = absurd r
known_plain user fps (replies.Damaged at byte) r = absurd r
known_plain user fps (replies.Rotten named found) r = absurd r
known_plain user fps (replies.Malformed at) r = absurd r
known_plain user fps replies.NoMemory r = absurd r

pub entries_plain : (user : UserId) (last : Option (Tag × Version)) (reply : Reply) → EntriesReply last reply → IsPlain (requests.List user last) reply
entries_plain user last (replies.Hello n k cloud format) r = absurd r
entries_plain user last (replies.Known flags) r = absurd r
entries_plain user last (replies.Stored new) r = absurd r
entries_plain user last replies.Committed r = absurd r
entries_plain user last replies.Exists r = absurd r
entries_plain user last (replies.Lacking place) r = absurd r
entries_plain user last (replies.Recipe bytes) r = absurd r
entries_plain user last replies.Missing r = absurd r
entries_plain user last replies.Deleted r = absurd r
entries_plain user last (replies.Shares shares) r = absurd r
entries_plain user last (replies.NotYours place) r = absurd r
entries_plain user last (replies.Entries keys) r = record { kind = λ items. r; memory = λ e. let no : replies.Entries keys ≡ replies.NoMemory = e in cc; fault = λ e. let no : replies.Entries keys ≡ replies.Fault = e in cc; damaged = λ at byte e. let no : replies.Entries keys ≡ replies.Damaged at byte = e in cc }
entries_plain user last (replies.Full room used need limit) r = absurd r
entries_plain user last replies.Fault r = absurd r
entries_plain user last (replies.Damaged at byte) r = absurd r
entries_plain user last (replies.Rotten named found) r = absurd r
entries_plain user last (replies.Malformed at) r = absurd r
entries_plain user last replies.NoMemory r = absurd r

pub shares_plain : (user : UserId) (fps : List Fp) (Found : Fp → Fp → Type 0) (reply : Reply) → SharesReply fps Found reply → IsPlain (requests.GetShares user fps) reply
shares_plain user fps Found (replies.Hello n k cloud format) r = absurd r
shares_plain user fps Found (replies.Known flags) r = absurd r
shares_plain user fps Found (replies.Stored new) r = absurd r
shares_plain user fps Found replies.Committed r = absurd r
shares_plain user fps Found replies.Exists r = absurd r
shares_plain user fps Found (replies.Lacking place) r = absurd r
shares_plain user fps Found (replies.Recipe bytes) r = absurd r
shares_plain user fps Found replies.Missing r = absurd r
shares_plain user fps Found replies.Deleted r = absurd r
shares_plain user fps Found (replies.Shares shares) r = record { kind = λ items. sym (length-map shares fingerprint) ∙ ap length r; memory = λ e. let no : replies.Shares shares ≡ replies.NoMemory = e in cc; fault = λ e. let no : replies.Shares shares ≡ replies.Fault = e in cc; damaged = λ at byte e. let no : replies.Shares shares ≡ replies.Damaged at byte = e in cc }
shares_plain user fps Found (replies.NotYours place) r = record { kind = λ items. r; memory = λ e. let no : replies.NotYours place ≡ replies.NoMemory = e in cc; fault = λ e. let no : replies.NotYours place ≡ replies.Fault = e in cc; damaged = λ at byte e. let no : replies.NotYours place ≡ replies.Damaged at byte = e in cc }
shares_plain user fps Found (replies.Entries keys) r = absurd r
shares_plain user fps Found (replies.Full room used need limit) r = absurd r
shares_plain user fps Found replies.Fault r = absurd r
shares_plain user fps Found (replies.Damaged at byte) r = absurd r
shares_plain user fps Found (replies.Rotten named found) r = record { kind = λ items. tt; memory = λ e. let no : replies.Rotten named found ≡ replies.NoMemory = e in cc; fault = λ e. let no : replies.Rotten named found ≡ replies.Fault = e in cc; damaged = λ at byte e. let no : replies.Rotten named found ≡ replies.Damaged at byte = e in cc }
shares_plain user fps Found (replies.Malformed at) r = absurd r
shares_plain user fps Found replies.NoMemory r = absurd r

pub recipe_plain : (user : UserId) (tag : Tag) (version : Version) (Is : List ℕ → Type 0) (Absent : Type 0) (Found : Fp → Fp → Type 0) (reply : Reply) → RecipeReply Is Absent Found reply
    → IsPlain (requests.GetRecipe user tag version) reply
recipe_plain user tag version Is Absent Found (replies.Hello n k cloud format) r = absurd r
recipe_plain user tag version Is Absent Found (replies.Known flags) r = absurd r
recipe_plain user tag version Is Absent Found (replies.Stored new) r = absurd r
recipe_plain user tag version Is Absent Found replies.Committed r = absurd r
recipe_plain user tag version Is Absent Found replies.Exists r = absurd r
recipe_plain user tag version Is Absent Found (replies.Lacking place) r = absurd r
recipe_plain user tag version Is Absent Found (replies.Recipe bytes) r = record { kind = λ items. tt; memory = λ e. let no : replies.Recipe bytes ≡ replies.NoMemory = e in cc; fault = λ e. let no : replies.Recipe bytes ≡ replies.Fault = e in cc; damaged = λ at byte e. let no : replies.Recipe bytes ≡ replies.Damaged at byte = e in cc }
recipe_plain user tag version Is Absent Found replies.Missing r = record { kind = λ items. tt; memory = λ e. let no : replies.Missing ≡ replies.NoMemory = e in cc; fault = λ e. let no : replies.Missing ≡ replies.Fault = e in cc; damaged = λ at byte e. let no : replies.Missing ≡ replies.Damaged at byte = e in cc }
recipe_plain user tag version Is Absent Found replies.Deleted r = absurd r
recipe_plain user tag version Is Absent Found (replies.Shares shares) r = absurd r
recipe_plain user tag version Is Absent Found (replies.NotYours place) r = absurd r
recipe_plain user tag version Is Absent Found (replies.Entries keys) r = absurd r
recipe_plain user tag version Is Absent Found (replies.Full room used need limit) r = absurd r
recipe_plain user tag version Is Absent Found replies.Fault r = absurd r
recipe_plain user tag version Is Absent Found (replies.Damaged at byte) r = absurd r
recipe_plain user tag version Is Absent Found (replies.Rotten named found) r = record { kind = λ items. tt; memory = λ e. let no : replies.Rotten named found ≡ replies.NoMemory = e in cc; fault = λ e. let no : replies.Rotten named found ≡ replies.Fault = e in cc; damaged = λ at byte e. let no : replies.Rotten named found ≡ replies.Damaged at byte = e in cc }
recipe_plain user tag version Is Absent Found (replies.Malformed at) r = absurd r
recipe_plain user tag version Is Absent Found replies.NoMemory r = absurd r
