-- What a transcript's bytes say: their front line, read word by word. Only the law of lines speaks of it, since no code
-- reads transcripts.
use Rattle.std.specs.Prelude.{ℕ, ◌+◌, Bool, true, false, List, [], ◌∷◌, length, take, drop, Option, Some, None, ◌==◌, if◌then◌else◌, codes}
use Rattle.std.specs.List.{find, position_or_len, slice_split}
use Rattle.std.specs.Str.{bytes_eq}
use Rattle.grammar.specs.CdBase.rooms.Room.{Room}
use Rattle.grammar.specs.CdBase.rooms.Room.TheVariants as rooms
use Rattle.grammar.specs.Words.{is_blank, keep}
use Rattle.grammar.specs.Numerals.{number}
use Rattle.grammar.specs.Hexadecimal.{unhex}
use Rattle.transcript.specs.ShapeOf.{shape_of}
use Rattle.transcript.specs.Transcript.{room_word, skip_word}
use Rattle.transcript.specs.declared.news.News.{News}
use Rattle.transcript.specs.declared.news.News.TheVariants as news
use Rattle.transcript.specs.declared.refusal.TargetWhy.{TargetWhy}
use Rattle.transcript.specs.declared.refusal.TargetWhy.TheVariants as targets
use Rattle.transcript.specs.declared.refusal.Refusal.{Refusal}
use Rattle.transcript.specs.declared.refusal.Refusal.TheVariants as refusals
use Rattle.transcript.specs.declared.line.SkipWord.{SkipWord}
use Rattle.transcript.specs.declared.line.SkipWord.TheVariants as skips
use Rattle.transcript.specs.declared.line.Line.{Line}
use Rattle.transcript.specs.declared.line.Line.TheVariants as lines

-- ---- words

-- numbers of as many bits
abbrev pub number_8 : List ℕ → Option ℕ
number_8 = number 0 255

abbrev pub number_16 : List ℕ → Option ℕ
number_16 = number 0 65535

abbrev pub number_32 : List ℕ → Option ℕ
number_32 = number 0 4294967295

abbrev pub number_64 : List ℕ → Option ℕ
number_64 = number 0 18446744073709551615

abbrev pub only : Option (List ℕ) → Option ℕ
only (Some (byte ∷ [])) = Some byte
only bytes = None

-- two digits
unfoldable pub byte_in : List ℕ → Option ℕ
byte_in word = only (unhex word)

-- 64 digits
unfoldable pub print_in : List ℕ → Option (List ℕ)
print_in word = keep (λ bytes. length bytes == 32) (unhex word)

-- a dash for no bytes
unfoldable pub bytes_in : List ℕ → Option (List ℕ)
bytes_in word = if bytes_eq word (45 ∷ []) then Some [] else unhex word

abbrev pub all_rooms : List Room
all_rooms = rooms.Shares ∷ rooms.Recipes ∷ rooms.Journal ∷ rooms.Fps ∷ rooms.Owners ∷ rooms.Files ∷ []

abbrev pub room_in : List ℕ → Option Room
room_in word = find (λ room. bytes_eq word (room_word room)) all_rooms

abbrev pub all_skips : List SkipWord
all_skips =
    skips.Missing ∷ skips.RecipesDiffer ∷ skips.ShareLength ∷ skips.BadSecret ∷ skips.BadPad ∷ skips.BadName
    ∷ skips.BadNamePad ∷ skips.BadPath ∷ skips.TargetExists ∷ []

abbrev pub skip_in : List ℕ → Option SkipWord
skip_in word = find (λ why. bytes_eq word (skip_word why)) all_skips

abbrev pub end_in : List ℕ → Option Bool
end_in word =
    if bytes_eq word (codes "stored") then Some true
    else if bytes_eq word (codes "open") then Some false
    else None

-- ---- words in a row

abbrev pub passed : {A B : Type 0} → Option A → (A → List (List ℕ) → Option B) → List (List ℕ) → Option B
passed None next words = None
passed (Some x) next words = next x words

-- a word, and what comes behind it
abbrev pub word_then : {A B : Type 0} → (List ℕ → Option A) → (A → List (List ℕ) → Option B) → List (List ℕ) → Option B
word_then read next [] = None
word_then read next (word ∷ words) = passed (read word) next words

-- two words, and what comes behind them
abbrev pub two_then : {A B C : Type 0} → (List ℕ → Option A) → (List ℕ → Option B) → (A → B → List (List ℕ) → Option C)
    → List (List ℕ) → Option C
two_then first second next = word_then first (λ x. word_then second (next x))

-- no word is left
abbrev pub ended_by : {A : Type 0} → A → List (List ℕ) → Option A
ended_by x [] = Some x
ended_by x (word ∷ words) = None

-- ---- what a step came to

abbrev pub full_by : {A : Type 0} → (Room → ℕ → ℕ → ℕ → A) → List (List ℕ) → Option A
full_by make =
    two_then room_in number_64 (λ room used. two_then number_64 number_64 (λ need limit. ended_by (make room used need limit)))

abbrev pub damaged_by : {A : Type 0} → (ℕ → ℕ → A) → List (List ℕ) → Option A
damaged_by make = two_then number_64 byte_in (λ at byte. ended_by (make at byte))

abbrev pub rotten_by : {A : Type 0} → (List ℕ → List ℕ → A) → List (List ℕ) → Option A
rotten_by make = two_then print_in print_in (λ named found. ended_by (make named found))

abbrev pub news_named : List ℕ → List (List ℕ) → Option News
news_named name =
    if bytes_eq name (codes "known") then two_then number_16 number_16 (λ known asked. ended_by (news.Known known asked))
    else if bytes_eq name (codes "stored") then two_then number_16 number_16 (λ new sent. ended_by (news.Stored new sent))
    else if bytes_eq name (codes "committed") then ended_by news.Committed
    else if bytes_eq name (codes "exists") then ended_by news.Exists
    else if bytes_eq name (codes "lacking") then word_then number_32 (λ place. ended_by (news.Lacking place))
    else if bytes_eq name (codes "full") then full_by news.Full
    else if bytes_eq name (codes "fault") then ended_by news.Fault
    else if bytes_eq name (codes "damaged") then damaged_by news.Damaged
    else if bytes_eq name (codes "rotten") then
    rotten_by (λ named found. news.Rotten (record { 0 = named }) (record { 0 = found }))
    else if bytes_eq name (codes "nomemory") then ended_by news.NoMemory
    else if bytes_eq name (codes "strange") then word_then byte_in (λ kind. ended_by (news.Strange kind))
    else if bytes_eq name (codes "done") then ended_by news.Done
    else λ words. None

-- ---- why something was refused

abbrev pub target_named : List ℕ → List (List ℕ) → Option TargetWhy
target_named name =
    if bytes_eq name (codes "lost") then ended_by targets.Lost
    else if bytes_eq name (codes "fault") then ended_by targets.Fault
    else if bytes_eq name (codes "damaged") then damaged_by targets.Damaged
    else if bytes_eq name (codes "rotten") then
    rotten_by (λ named found. targets.Rotten (record { 0 = named }) (record { 0 = found }))
    else if bytes_eq name (codes "full") then full_by targets.Full
    else if bytes_eq name (codes "lacking") then word_then number_32 (λ place. ended_by (targets.Lacking place))
    else if bytes_eq name (codes "nomemory") then ended_by targets.NoMemory
    else if bytes_eq name (codes "strange") then word_then byte_in (λ kind. ended_by (targets.Strange kind))
    else λ words. None

-- the first word says which, and the others are read by it
abbrev pub named_by : {A : Type 0} → (List ℕ → List (List ℕ) → Option A) → List (List ℕ) → Option A
named_by read [] = None
named_by read (name ∷ words) = read name words

abbrev pub made_of : {A B : Type 0} → (A → B) → Option A → Option B
made_of make None = None
made_of make (Some x) = Some (make x)

-- a cloud alone
abbrev pub cloud_by : {A : Type 0} → (ℕ → A) → List (List ℕ) → Option A
cloud_by make = word_then number_8 (λ cloud. ended_by (make cloud))

abbrev pub refusal_named : List ℕ → List (List ℕ) → Option Refusal
refusal_named name =
    if bytes_eq name (codes "missing") then cloud_by (λ cloud. refusals.Missing (record { 0 = cloud }))
    else if bytes_eq name (codes "lost") then cloud_by (λ cloud. refusals.Lost (record { 0 = cloud }))
    else if bytes_eq name (codes "fault") then cloud_by (λ cloud. refusals.Fault (record { 0 = cloud }))
    else if bytes_eq name (codes "damaged") then
    word_then number_8 (λ cloud. damaged_by (λ at byte. refusals.Damaged (record { 0 = cloud }) at byte))
    else if bytes_eq name (codes "rotten") then
    word_then number_8 (λ cloud. rotten_by (λ named found.
    refusals.Rotten (record { 0 = cloud }) (record { 0 = named }) (record { 0 = found })))
    else if bytes_eq name (codes "nomemory") then cloud_by (λ cloud. refusals.NoMemory (record { 0 = cloud }))
    else if bytes_eq name (codes "strange") then
    two_then number_8 byte_in (λ cloud kind. ended_by (refusals.Strange (record { 0 = cloud }) kind))
    else if bytes_eq name (codes "recipesdiffer") then
    two_then number_8 number_8 (λ cloud_a cloud_b. word_then number_32 (λ place.
    ended_by (refusals.RecipesDiffer (record { 0 = cloud_a }) (record { 0 = cloud_b }) place)))
    else if bytes_eq name (codes "sharelength") then
    two_then number_8 number_32 (λ cloud secret. two_then number_32 number_32 (λ found wanted.
    ended_by (refusals.ShareLength (record { 0 = cloud }) secret found wanted)))
    else if bytes_eq name (codes "badshare") then
    two_then number_8 number_32 (λ cloud secret. rotten_by (λ named found.
    refusals.BadShare (record { 0 = cloud }) secret (record { 0 = named }) (record { 0 = found })))
    else if bytes_eq name (codes "badsecret") then
    word_then number_32 (λ secret. rotten_by (λ named found.
    refusals.BadSecret secret (record { 0 = named }) (record { 0 = found })))
    else if bytes_eq name (codes "badpad") then
    two_then number_32 number_32 (λ secret at. word_then byte_in (λ byte. ended_by (refusals.BadPad secret at byte)))
    else if bytes_eq name (codes "target") then (λ words. made_of refusals.Target (named_by target_named words))
    else λ words. None

-- ---- lines

abbrev pub opened_by : ℕ → ℕ → List (List ℕ) → Option Line
opened_by n k words = passed (shape_of n k) (λ shape. ended_by (lines.Opened shape)) words

abbrev pub line_named : List ℕ → List (List ℕ) → Option Line
line_named name =
    if bytes_eq name (codes "open") then two_then number_8 number_8 opened_by
    else if bytes_eq name (codes "done") then word_then number_64 (λ events. ended_by (lines.Done events))
    else if bytes_eq name (codes "job") then word_then number_32 (λ job. ended_by (lines.Job job))
    else if bytes_eq name (codes "step") then
    two_then number_32 number_8 (λ job lane words.
    made_of (lines.Step job (record { 0 = lane })) (named_by news_named words))
    else if bytes_eq name (codes "stored") then word_then number_32 (λ job. ended_by (lines.JobStored job))
    else if bytes_eq name (codes "lost") then
    two_then number_32 number_8 (λ job lane. ended_by (lines.Lost job (record { 0 = lane })))
    else if bytes_eq name (codes "end") then two_then number_32 end_in (λ job stored. ended_by (lines.End job stored))
    else if bytes_eq name (codes "got") then word_then bytes_in (λ bytes. ended_by (lines.Got bytes))
    else if bytes_eq name (codes "refused") then (λ words. made_of lines.Refused (named_by refusal_named words))
    else if bytes_eq name (codes "entries") then
    two_then number_32 number_8 (λ user cloud. word_then number_32 (λ count.
    ended_by (lines.Entries (record { 0 = user }) (record { 0 = cloud }) count)))
    else if bytes_eq name (codes "entry") then
    two_then print_in number_64 (λ tag version. ended_by (lines.Entry (record { 0 = tag }) (record { 0 = version })))
    else if bytes_eq name (codes "armed") then cloud_by (λ cloud. lines.Armed (record { 0 = cloud }))
    else if bytes_eq name (codes "restarted") then
    two_then number_8 number_64 (λ cloud commands. ended_by (lines.Restarted (record { 0 = cloud }) commands))
    else if bytes_eq name (codes "replaced") then cloud_by (λ cloud. lines.Replaced (record { 0 = cloud }))
    else if bytes_eq name (codes "fault") then cloud_by (λ cloud. lines.Fault (record { 0 = cloud }))
    else if bytes_eq name (codes "damaged") then
    word_then number_8 (λ cloud. damaged_by (λ at byte. lines.Damaged (record { 0 = cloud }) at byte))
    else if bytes_eq name (codes "rebuilt") then
    two_then number_32 number_8 (λ user cloud. two_then number_32 number_32 (λ files skipped.
    ended_by (lines.Rebuilt (record { 0 = user }) (record { 0 = cloud }) files skipped)))
    else if bytes_eq name (codes "skipped") then
    two_then print_in number_64 (λ tag version. word_then skip_in (λ why.
    ended_by (lines.Skipped (record { 0 = tag }) (record { 0 = version }) why)))
    else if bytes_eq name (codes "deleted") then cloud_by (λ cloud. lines.Deleted (record { 0 = cloud }))
    else if bytes_eq name (codes "missing") then cloud_by (λ cloud. lines.Missing (record { 0 = cloud }))
    else if bytes_eq name (codes "full") then
    word_then number_8 (λ cloud. full_by (λ room used need limit. lines.Full (record { 0 = cloud }) room used need limit))
    else if bytes_eq name (codes "rotten") then
    word_then number_8 (λ cloud. rotten_by (λ named found.
    lines.Rotten (record { 0 = cloud }) (record { 0 = named }) (record { 0 = found })))
    else if bytes_eq name (codes "nomemory") then cloud_by (λ cloud. lines.NoMemory (record { 0 = cloud }))
    else if bytes_eq name (codes "strange") then
    two_then number_8 byte_in (λ cloud kind. ended_by (lines.Strange (record { 0 = cloud }) kind))
    else λ words. None

-- the line of some words
unfoldable pub line_of : List (List ℕ) → Option Line
line_of words = named_by line_named words

abbrev pub is_newline : ℕ → Bool
is_newline byte = byte == 10

-- how long the front line is, without its newline
abbrev pub line_len : List ℕ → ℕ
line_len bytes = position_or_len is_newline bytes

abbrev pub and_rest : {A : Type 0} → Option A → List ℕ → Option (A × List ℕ)
and_rest None rest = None
and_rest (Some x) rest = Some (x, rest)

-- the front line, and the bytes behind its newline
unfoldable pub line_at : List ℕ → Option (Line × List ℕ)
line_at bytes =
    and_rest (line_of (slice_split is_blank (take (line_len bytes) bytes))) (drop (line_len bytes + 1) bytes)
