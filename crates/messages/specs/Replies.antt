-- The one spelling of each reply, and its ranges.
use Rattle.std.specs.Prelude.{◌≡◌, ℕ, ◌<◌, ◌≤◌, ◌^◌, List, [], ◌∷◌, ◌++◌, length}
use Rattle.std.specs.Int.{w16, w32, w64, to_be_bytes}
use Rattle.message_fields.specs.CdBase.rooms.Room.{Room}
use Rattle.message_fields.specs.CdBase.rooms.Room.TheVariants as rooms
use Rattle.frames.specs.Frames.{frame_limit}
use Rattle.message_fields.specs.Shares.{shares_bytes, AreShares}
use Rattle.message_fields.specs.Flags.{flags_bytes, AreFlags}
use Rattle.message_fields.specs.Keys.{entries_bytes, AreEntryKeys, key_limit}
use Rattle.message_fields.specs.Fingerprints.{batch_limit}
use Rattle.messages.specs.Requests.{AreFew}
use Rattle.messages.specs.declared.reply.Reply.{Reply}
use Rattle.messages.specs.declared.reply.Reply.TheVariants as replies

abbrev pub room_number : Room → ℕ
room_number rooms.Shares = 1
room_number rooms.Recipes = 2
room_number rooms.Journal = 3
room_number rooms.Fps = 4
room_number rooms.Owners = 5
room_number rooms.Files = 6

-- the content of a reply: its kind, and then its fields
abbrev pub reply_bytes : Reply → List ℕ
reply_bytes (replies.Hello n k cloud format) = 0x81 ∷ n ∷ k ∷ cloud ∷ format ∷ []
reply_bytes (replies.Known flags) = 0x82 ∷ flags_bytes flags
reply_bytes (replies.Stored new) = 0x83 ∷ to_be_bytes w16 new
reply_bytes replies.Committed = 0x84 ∷ []
reply_bytes replies.Exists = 0x85 ∷ []
reply_bytes (replies.Lacking place) = 0x86 ∷ to_be_bytes w32 place
reply_bytes (replies.Recipe bytes) = 0x87 ∷ bytes
reply_bytes replies.Missing = 0x88 ∷ []
reply_bytes (replies.Shares shares) = 0x89 ∷ shares_bytes shares
reply_bytes (replies.NotYours place) = 0x8A ∷ to_be_bytes w16 place
reply_bytes (replies.Entries entries) = 0x8B ∷ entries_bytes entries
reply_bytes (replies.Full room used need limit) = 0x8C ∷ room_number room ∷ (to_be_bytes w64 used ++ (to_be_bytes w64 need ++ to_be_bytes w64 limit))
reply_bytes replies.Fault = 0x8D ∷ []
reply_bytes (replies.Damaged at byte) = 0x8E ∷ (to_be_bytes w64 at ++ byte ∷ [])
reply_bytes (replies.Rotten named found) = 0x8F ∷ (named.0 ++ found.0)
reply_bytes (replies.Malformed at) = 0x90 ∷ to_be_bytes w32 at
reply_bytes replies.NoMemory = 0x91 ∷ []
reply_bytes replies.Deleted = 0x92 ∷ []

-- the lists are no longer than one message has them, and a recipe fits a frame with its kind
abbrev pub IsWritableReply : Reply → Type 0
IsWritableReply (replies.Hello n k cloud format) = Unit {0}
IsWritableReply (replies.Known flags) = length flags ≤ batch_limit
IsWritableReply (replies.Stored new) = Unit {0}
IsWritableReply replies.Committed = Unit {0}
IsWritableReply replies.Exists = Unit {0}
IsWritableReply (replies.Lacking place) = Unit {0}
IsWritableReply (replies.Recipe bytes) = length bytes < frame_limit
IsWritableReply replies.Missing = Unit {0}
IsWritableReply (replies.Shares shares) = AreFew shares
IsWritableReply (replies.NotYours place) = Unit {0}
IsWritableReply (replies.Entries entries) = length entries ≤ key_limit
IsWritableReply (replies.Full room used need limit) = Unit {0}
IsWritableReply replies.Fault = Unit {0}
IsWritableReply (replies.Damaged at byte) = Unit {0}
IsWritableReply (replies.Rotten named found) = Unit {0}
IsWritableReply (replies.Malformed at) = Unit {0}
IsWritableReply replies.NoMemory = Unit {0}
IsWritableReply replies.Deleted = Unit {0}

-- each field is in its range
abbrev pub FitsReply : Reply → Type 0
FitsReply (replies.Hello n k cloud format) = (n < 256) × ((k < 256) × ((cloud < 256) × (format ≡ 1)))
FitsReply (replies.Known flags) = AreFlags flags
FitsReply (replies.Stored new) = new ≤ batch_limit
FitsReply replies.Committed = Unit {0}
FitsReply replies.Exists = Unit {0}
FitsReply (replies.Lacking place) = place < 2 ^ 32
FitsReply (replies.Recipe bytes) = 1 ≤ length bytes
FitsReply replies.Missing = Unit {0}
FitsReply (replies.Shares shares) = AreShares shares
FitsReply (replies.NotYours place) = place < 2 ^ 16
FitsReply (replies.Entries entries) = AreEntryKeys entries
FitsReply (replies.Full room used need limit) = Unit {0} × ((used < 2 ^ 64) × ((need < 2 ^ 64) × (limit < 2 ^ 64)))
FitsReply replies.Fault = Unit {0}
FitsReply (replies.Damaged at byte) = (at < 2 ^ 64) × (byte < 256)
FitsReply (replies.Rotten named found) = (length named.0 ≡ 32) × (length found.0 ≡ 32)
FitsReply (replies.Malformed at) = at < 2 ^ 32
FitsReply replies.NoMemory = Unit {0}
FitsReply replies.Deleted = Unit {0}

-- The bytes are this reply: its one spelling, and each field is in its range.
pub record IsReply (bytes : List ℕ) (r : Reply) : Type 0 where
  pub fits : FitsReply r
  pub spelled : bytes ≡ reply_bytes r
