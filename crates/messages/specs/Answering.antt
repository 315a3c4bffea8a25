-- Which replies a server that keeps to the rules gives to a request.
use Rattle.std.specs.Prelude.{◌≡◌, ℕ, ◌<◌, ◌≤◌, length}
use Rattle.message_fields.specs.Keys.{AreAbove}
use Rattle.messages.specs.declared.request.Request.{Request}
use Rattle.messages.specs.declared.request.Request.TheVariants as requests
use Rattle.messages.specs.declared.reply.Reply.{Reply}
use Rattle.messages.specs.declared.reply.Reply.TheVariants as replies

-- The reply is one that such a server gives to the request, where a Commit's recipe has so many items. A failing device, damage
-- and want of memory may answer any request.
abbrev pub IsReplyTo : ℕ → Request → Reply → Type 0
IsReplyTo items request replies.Fault = Unit {0}
IsReplyTo items request (replies.Damaged at byte) = Unit {0}
IsReplyTo items request replies.NoMemory = Unit {0}
IsReplyTo items requests.Hello (replies.Hello n k cloud format) = Unit {0}
IsReplyTo items (requests.Query user fps) (replies.Known flags) = length flags ≡ length fps
IsReplyTo items (requests.Put user shares) (replies.Stored new) = new ≤ length shares
IsReplyTo items (requests.Put user shares) (replies.Full room used need limit) = Unit {0}
IsReplyTo items (requests.Commit user tag version recipe) replies.Committed = Unit {0}
IsReplyTo items (requests.Commit user tag version recipe) replies.Exists = Unit {0}
IsReplyTo items (requests.Commit user tag version recipe) (replies.Lacking place) = place < items
IsReplyTo items (requests.Commit user tag version recipe) (replies.Full room used need limit) = Unit {0}
IsReplyTo items (requests.Commit user tag version recipe) (replies.Rotten named found) = Unit {0}
IsReplyTo items (requests.GetRecipe user tag version) (replies.Recipe bytes) = Unit {0}
IsReplyTo items (requests.GetRecipe user tag version) replies.Missing = Unit {0}
IsReplyTo items (requests.GetRecipe user tag version) (replies.Rotten named found) = Unit {0}
IsReplyTo items (requests.GetShares user fps) (replies.Shares shares) = length shares ≡ length fps
IsReplyTo items (requests.GetShares user fps) (replies.NotYours place) = place < length fps
IsReplyTo items (requests.GetShares user fps) (replies.Rotten named found) = Unit {0}
IsReplyTo items (requests.List user after) (replies.Entries entries) = AreAbove after entries
IsReplyTo items (requests.Delete user tag version) replies.Deleted = Unit {0}
IsReplyTo items (requests.Delete user tag version) replies.Missing = Unit {0}
IsReplyTo items (requests.Delete user tag version) (replies.Full room used need limit) = Unit {0}
IsReplyTo items (requests.Delete user tag version) (replies.Rotten named found) = Unit {0}
IsReplyTo items request reply = ⊥
