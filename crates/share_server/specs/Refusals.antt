-- By which place and byte an opening's error is named, and the replies of a server whose cloud isn't opened.
use Rattle.std.specs.Prelude.{◌≡◌, ◌≢◌, ℕ, ◌+◌, ◌<◌, ◌^◌, List, length, take, slice_index}
use Rattle.server_requests.specs.CommitJournal.errors.OpenErr.{OpenErr}
use Rattle.server_requests.specs.CommitJournal.errors.OpenErr.TheVariants as errors
use Rattle.server_requests.specs.JournalStart.Ranges.{IsHeader}
use Rattle.server_requests.specs.JournalStart.Spelling.{header_bytes}
use Rattle.server_requests.specs.Messages.reply.Reply.{Reply}
use Rattle.server_requests.specs.Messages.reply.Reply.TheVariants as replies
use Rattle.server_requests.specs.Messages.Replies.{IsReply}

-- the first place at which bytes that were found aren't those that were asked, and the byte that was found there
pub record DiffersAt (found asked : List ℕ) (place byte : ℕ) : Type 0 where
  pub within : place < length found
  pub alike : take place found ≡ take place asked
  pub differs : slice_index found place ≢ slice_index asked place
  pub byte_is : byte ≡ slice_index found place

-- the bytes are the same as far as both go
abbrev pub AreSameInFront : List ℕ → List ℕ → Type 0
AreSameInFront found asked = take (length asked) found ≡ take (length found) asked

-- The place and the byte by which an opening's error is named: those of the damage; of another store's header the first byte that differs, from
-- the header's place on.
abbrev pub IsNamedDamage : OpenErr → ℕ → ℕ → Type 0
IsNamedDamage (errors.Damaged place found) at byte = (at ≡ place) × (byte ≡ found)
IsNamedDamage (errors.OtherStore found asked header_at) at byte =
    (place : ℕ) × (header_at + place < 2 ^ 64 → at ≡ header_at + place)
    × (IsHeader found → IsHeader asked → found ≢ asked → DiffersAt (header_bytes found) (header_bytes asked) place byte)
IsNamedDamage error at byte = Unit {0}

-- The reply to an error of an opening: Fault as it is, and else Damaged by the error's place and byte.
abbrev pub IsRefusal : OpenErr → Reply → Type 0
IsRefusal errors.Fault reply = reply ≡ replies.Fault
IsRefusal (errors.Damaged at byte) reply = reply ≡ replies.Damaged at byte
IsRefusal (errors.OtherStore found asked at) reply =
    (place : ℕ) × (byte : ℕ) × (reply ≡ replies.Damaged place byte) × IsNamedDamage (errors.OtherStore found asked at) place byte
IsRefusal (errors.NotBegun len) reply = ⊥

-- The content is the reply to this error.
pub record IsErrorReply (error : OpenErr) (content : List ℕ) : Type 0 where
  pub reply : Reply
  pub is : IsReply content reply
  pub refusal : IsRefusal error reply

-- an error that an opening may have that begins an unbegun journal
abbrev pub MayCome : OpenErr → Type 0
MayCome errors.Fault = Unit {0}
MayCome (errors.Damaged at byte) = Unit {0}
MayCome (errors.OtherStore found asked at) = Unit {0}
MayCome (errors.NotBegun len) = ⊥
