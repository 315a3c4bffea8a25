-- What reading the content of a reply gives: fields from left to right.
use Rattle.std.specs.Prelude.{ℕ, Bool, false, List, [], ◌∷◌, length, Option, Some, None, Result, Err, ◌==◌, nat_le, if◌then◌else◌}
use Rattle.std.specs.Int.{w16, w32, w64}
use Rattle.message_fields.specs.CdBase.rooms.Room.{Room}
use Rattle.message_fields.specs.CdBase.rooms.Room.TheVariants as rooms
use Rattle.message_fields.specs.Grammar.Readers.{◌▷◌, whole, done_at}
use Rattle.message_fields.specs.Grammar.Fields.{number_at, bytes_at, checked}
use Rattle.message_fields.specs.Parts.{byte_as}
use Rattle.message_fields.specs.Fingerprints.{batch_limit}
use Rattle.message_fields.specs.Flags.{flags_at}
use Rattle.message_fields.specs.Shares.{shares_at}
use Rattle.message_fields.specs.Keys.{entries_at}
use Rattle.messages.specs.declared.reply.Reply.{Reply}
use Rattle.messages.specs.declared.reply.Reply.TheVariants as replies
use Rattle.messages.specs.Parts.{some_left, placed}

-- the one format there is
abbrev pub format_of : ℕ → Option ℕ
format_of b = if b == 1 then Some b else None

abbrev pub room_of : ℕ → Option Room
room_of b =
    if b == 1 then Some rooms.Shares
    else if b == 2 then Some rooms.Recipes
    else if b == 3 then Some rooms.Journal
    else if b == 4 then Some rooms.Fps
    else if b == 5 then Some rooms.Owners
    else if b == 6 then Some rooms.Files
    else None

abbrev pub is_new_count : ℕ → Bool
is_new_count n = nat_le n batch_limit

unfoldable pub hello_left : List ℕ → Result Reply ℕ
hello_left = whole (λ x. replies.Hello x.0 x.1.0 x.1.1.0 x.1.1.1) (byte_as Some ▷ (byte_as Some ▷ (byte_as Some ▷ byte_as format_of)))

unfoldable pub known_left : List ℕ → Result Reply ℕ
known_left = whole replies.Known flags_at

unfoldable pub stored_left : List ℕ → Result Reply ℕ
stored_left = whole replies.Stored (checked is_new_count (number_at w16))

unfoldable pub lacking_left : List ℕ → Result Reply ℕ
lacking_left = whole replies.Lacking (number_at w32)

unfoldable pub recipe_left : List ℕ → Result Reply ℕ
recipe_left = some_left replies.Recipe

unfoldable pub shares_left : List ℕ → Result Reply ℕ
shares_left = whole replies.Shares shares_at

unfoldable pub not_yours_left : List ℕ → Result Reply ℕ
not_yours_left = whole replies.NotYours (number_at w16)

unfoldable pub entries_left : List ℕ → Result Reply ℕ
entries_left = whole replies.Entries entries_at

unfoldable pub full_left : List ℕ → Result Reply ℕ
full_left = whole (λ x. replies.Full x.0 x.1.0 x.1.1.0 x.1.1.1) (byte_as room_of ▷ (number_at w64 ▷ (number_at w64 ▷ number_at w64)))

unfoldable pub damaged_left : List ℕ → Result Reply ℕ
damaged_left = whole (λ x. replies.Damaged x.0 x.1) (number_at w64 ▷ byte_as Some)

unfoldable pub rotten_left : List ℕ → Result Reply ℕ
rotten_left = whole (λ x. replies.Rotten (record { 0 = x.0 }) (record { 0 = x.1 })) (bytes_at 32 ▷ bytes_at 32)

unfoldable pub malformed_left : List ℕ → Result Reply ℕ
malformed_left = whole replies.Malformed (number_at w32)

-- the kinds that need no memory; an unknown one is wrong at its place
unfoldable pub plain_left : ℕ → List ℕ → Result Reply ℕ
plain_left kind fields =
    if kind == 0x81 then hello_left fields
    else if kind == 0x83 then stored_left fields
    else if kind == 0x84 then done_at replies.Committed fields
    else if kind == 0x85 then done_at replies.Exists fields
    else if kind == 0x86 then lacking_left fields
    else if kind == 0x88 then done_at replies.Missing fields
    else if kind == 0x8A then not_yours_left fields
    else if kind == 0x8C then full_left fields
    else if kind == 0x8D then done_at replies.Fault fields
    else if kind == 0x8E then damaged_left fields
    else if kind == 0x8F then rotten_left fields
    else if kind == 0x90 then malformed_left fields
    else if kind == 0x91 then done_at replies.NoMemory fields
    else if kind == 0x92 then done_at replies.Deleted fields
    else Err (length (kind ∷ fields))

-- by the kind
unfoldable pub reply_fields_left : ℕ → List ℕ → Result Reply ℕ
reply_fields_left kind fields =
    if kind == 0x82 then known_left fields
    else if kind == 0x87 then recipe_left fields
    else if kind == 0x89 then shares_left fields
    else if kind == 0x8B then entries_left fields
    else plain_left kind fields

unfoldable pub reply_left : List ℕ → Result Reply ℕ
reply_left [] = Err 0
reply_left (kind ∷ fields) = reply_fields_left kind fields

-- the reply that the bytes are, or the place of the first field that fails
unfoldable pub reply_at : List ℕ → Result Reply ℕ
reply_at bytes = placed bytes (reply_left bytes)

-- the content says that it is a list of entries, which is read entry by entry
abbrev pub is_of_entries : List ℕ → Bool
is_of_entries [] = false
is_of_entries (kind ∷ fields) = kind == 0x8B
