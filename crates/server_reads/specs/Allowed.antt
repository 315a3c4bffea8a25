-- Which replies come, whatever is known of the memory and of the disk.
use Rattle.std.specs.Prelude.{◌≡◌, ◌≢◌, ℕ, ◌<◌, List, length, map, Option}
use Rattle.std.specs.List.{Contains}
use Rattle.cloud_memory.specs.CdBase.ids.Fp.{Fp}
use Rattle.cloud_memory.specs.CdBase.ids.Tag.{Tag}
use Rattle.cloud_memory.specs.CdBase.ids.Version.{Version}
use Rattle.messages.specs.MessageFields.Keys.{AreAbove}
use Rattle.messages.specs.declared.request.Request.{Request}
use Rattle.messages.specs.declared.reply.Reply.{Reply}
use Rattle.messages.specs.declared.reply.Reply.TheVariants as replies
use Rattle.messages.specs.Answering.{IsReplyTo}
use Rattle.messages.specs.Replies.{IsReply}
use Rattle.cloud_memory.specs.UserDedup.Cloud.{fingerprint}

-- The content is a reply of which this is said.
pub record Replies (content : List ℕ) (P : Reply → Type 0) : Type 0 where
  pub reply : Reply
  pub is : IsReply content reply
  pub said : P reply

-- to Query: one flag for each fingerprint
abbrev pub KnownReply : List Fp → Reply → Type 0
KnownReply fps (replies.Known flags) = length flags ≡ length fps
KnownReply fps reply = ⊥

-- to List: rising keys, from above the last one
abbrev pub EntriesReply : Option (Tag × Version) → Reply → Type 0
EntriesReply last (replies.Entries keys) = AreAbove last keys
EntriesReply last reply = ⊥

-- To GetShares: shares of just these fingerprints; the place of one of them; or one of them, with another fingerprint that is found.
abbrev pub SharesReply : List Fp → (Fp → Fp → Type 0) → Reply → Type 0
SharesReply fps Found (replies.Shares shares) = map fingerprint shares ≡ fps
SharesReply fps Found (replies.NotYours place) = place < length fps
SharesReply fps Found (replies.Rotten named found) = Contains fps named × Found named found
SharesReply fps Found reply = ⊥

-- To GetRecipe: bytes that are a recipe, that there is none, or another fingerprint that is found.
abbrev pub RecipeReply : (List ℕ → Type 0) → Type 0 → (Fp → Fp → Type 0) → Reply → Type 0
RecipeReply Is Absent Found (replies.Recipe bytes) = Is bytes
RecipeReply Is Absent Found replies.Missing = Absent
RecipeReply Is Absent Found (replies.Rotten named found) = Found named found
RecipeReply Is Absent Found reply = ⊥

-- An open server that keeps to the rules gives the reply to the request: it says neither that a device failed, nor that the journal is
-- damaged, nor that memory ran out.
pub record IsPlain (request : Request) (reply : Reply) : Type 0 where
  pub kind : (items : ℕ) → IsReplyTo items request reply
  pub memory : reply ≢ replies.NoMemory
  pub fault : reply ≢ replies.Fault
  pub damaged : (at byte : ℕ) → reply ≢ replies.Damaged at byte
