-- What reading a line gives: fields from left to right, each a word behind a blank.
use Rattle.std.specs.Prelude.{ℕ, ◌≡◌, ◌-◌, ◌/◌, Bool, true, ◌&&◌, not, List, [], ◌∷◌, length, Option, Some, None, Result, Ok, Err, nat_lt, nat_le, ◌==◌, if◌then◌else◌, slice_get, codes}
use Rattle.std.specs.List.{find, list_all, slice_split}
use Rattle.std.specs.Str.{bytes_eq}
use Rattle.journal_start.specs.CdBase.Limits.{path_limit}
use Rattle.journal_start.specs.CdBase.shape.Shape.{Shape}
use Rattle.journal_start.specs.Ranges.{usual_rooms, most_shares, most_recipes, most_owners, most_files}
pub use Rattle.journal_start.specs.Reading.{make_rooms}
use Rattle.journal_start.specs.declared.rooms.UserRooms.{UserRooms}
use Rattle.journal_start.specs.Grammar.Readers.{◌>>=◌, ◌▷◌, ◌▷▷◌, whole}
use Rattle.journal_start.specs.Grammar.Words.{word_at, field_at, keep, onto}
use Rattle.journal_start.specs.Grammar.Numerals.{number, capped}
use Rattle.journal_start.specs.Grammar.Hexadecimal.{unhex}
use Rattle.session.specs.Fault.{Fault}
use Rattle.session.specs.Spelling.{file_limit, upload_limit}
use Rattle.transcript.specs.ShapeOf.{shape_of}
use Rattle.session.specs.declared.event.Event.{Event}
use Rattle.session.specs.declared.event.Event.TheVariants as events
use Rattle.session.specs.declared.kinds.FirstWord.{FirstWord}
use Rattle.session.specs.declared.kinds.FirstWord.TheVariants as commands
use Rattle.session.specs.declared.reading.ScriptErr.{ScriptErr}
use Rattle.session.specs.declared.reading.ScriptErr.TheVariants as errors

-- What a function returned is what reading gives, unless memory ran out.
abbrev pub ReadsScript : {A : Type 0} → Result A ScriptErr → Result A Fault → Type 0
ReadsScript (Ok value) reading = reading ≡ Ok value
ReadsScript (Err errors.NoMemory) reading = Unit {0}
ReadsScript (Err (errors.At at found)) reading = reading ≡ Err (record { at = at; found = found })

-- a fault's place, counted from the front of the line, with the byte there or the end
abbrev pub placed : {A : Type 0} → List ℕ → Result A ℕ → Result A Fault
placed line (Ok value) = Ok value
placed line (Err left) = Err (record { at = length line - left; found = slice_get line (length line - left) })

-- ---- kinds of words

-- one word alone
unfoldable pub literal : List ℕ → List ℕ → Option (Unit {0})
literal name text = if bytes_eq text name then Some tt else None

abbrev pub names_file : List ℕ → Bool
names_file bytes = nat_le 1 (length bytes) && (nat_le (length bytes) path_limit && list_all (λ byte. not (byte == 0)) bytes)

unfoldable pub path : List ℕ → Option (List ℕ)
path text = keep names_file (unhex text)

abbrev pub is_contents : List ℕ → Bool
is_contents bytes = nat_lt 0 (length bytes) && nat_le (length bytes) file_limit

-- a dash for no bytes
unfoldable pub contents : List ℕ → Option (List ℕ)
contents text = if bytes_eq text (45 ∷ []) then Some [] else keep is_contents (unhex text)

abbrev pub user : List ℕ → Option ℕ
user = number 0 4294967295

abbrev pub version : List ℕ → Option ℕ
version = number 0 18446744073709551615

-- one of the jobs so far
abbrev pub job : ℕ → List ℕ → Option ℕ
job jobs = number 1 jobs

abbrev pub cloud : Shape → List ℕ → Option ℕ
cloud shape = number 0 (shape.n - 1)

abbrev pub is_comma : ℕ → Bool
is_comma b = b == 44

unfoldable pub each : {A : Type 0} → (List ℕ → Option A) → List (List ℕ) → Option (List A)
each read [] = Some []
each read (text ∷ texts) = onto (read text) (each read texts)

abbrev pub rises : List ℕ → Bool
rises [] = true
rises (x ∷ []) = true
rises (x ∷ y ∷ ys) = nat_lt x y && rises (y ∷ ys)

abbrev pub is_choice : ℕ → List ℕ → Bool
is_choice k clouds = length clouds == k && rises clouds

abbrev pub are_enough : ℕ → List ℕ → Bool
are_enough k clouds = nat_le k (length clouds) && rises clouds

-- the numbers between commas
abbrev pub listed : Shape → List ℕ → Option (List ℕ)
listed shape text = each (cloud shape) (slice_split is_comma text)

unfoldable pub clouds : Shape → List ℕ → Option (List ℕ)
clouds shape text = keep (is_choice shape.k) (listed shape text)

-- k or more of them
unfoldable pub sources : Shape → List ℕ → Option (List ℕ)
sources shape text = keep (are_enough shape.k) (listed shape text)

-- none of the clouds is this one
abbrev pub lacks : ℕ → List ℕ → Bool
lacks target [] = true
lacks target (cloud ∷ clouds) = not (cloud == target) && lacks target clouds

unfoldable pub others : Shape → ℕ → List ℕ → Option (List ℕ)
others shape target text = keep (lacks target) (clouds shape text)

-- ---- the lines after the first

-- the first words of lines
abbrev pub name : FirstWord → List ℕ
name commands.Upload = codes "upload"
name commands.Step = codes "step"
name commands.Lose = codes "lose"
name commands.Drop = codes "drop"
name commands.Finish = codes "finish"
name commands.Get = codes "get"
name commands.List = codes "list"
name commands.Arm = codes "arm"
name commands.Restart = codes "restart"
name commands.Replace = codes "replace"
name commands.Rebuild = codes "rebuild"
name commands.Delete = codes "delete"

abbrev pub all_commands : List FirstWord
all_commands =
    commands.Upload ∷ commands.Step ∷ commands.Lose ∷ commands.Drop ∷ commands.Finish ∷ commands.Get ∷ commands.List ∷ commands.Arm
    ∷ commands.Restart ∷ commands.Replace ∷ commands.Rebuild ∷ commands.Delete ∷ []

abbrev pub named_command : List ℕ → Option FirstWord
named_command text = find (λ c. bytes_eq text (name c)) all_commands

-- no upload comes behind the last one that is allowed
abbrev pub is_allowed : ℕ → FirstWord → Bool
is_allowed jobs commands.Upload = nat_lt jobs upload_limit
is_allowed jobs c = true

unfoldable pub command : ℕ → List ℕ → Option FirstWord
command jobs text = keep (is_allowed jobs) (named_command text)

abbrev pub make_upload : ℕ × (List ℕ × (ℕ × List ℕ)) → Event
make_upload x = events.Upload (record { 0 = x.0 }) x.1.0 (record { 0 = x.1.1.0 }) x.1.1.1

unfoldable pub upload_at : List ℕ → Result Event ℕ
upload_at = whole make_upload (field_at user ▷ field_at path ▷ field_at version ▷ field_at contents)

-- a job and a cloud
unfoldable pub lane_at : Shape → ℕ → List ℕ → Result (ℕ × ℕ) ℕ
lane_at shape jobs = whole (λ x. x) (field_at (job jobs) ▷ field_at (cloud shape))

unfoldable pub job_at : ℕ → List ℕ → Result ℕ ℕ
job_at jobs = whole (λ x. x) (field_at (job jobs))

unfoldable pub cloud_at : Shape → List ℕ → Result ℕ ℕ
cloud_at shape = whole (λ x. x) (field_at (cloud shape))

abbrev pub make_get : ℕ × (List ℕ × (ℕ × List ℕ)) → Event
make_get x = events.Get (record { 0 = x.0 }) x.1.0 (record { 0 = x.1.1.0 }) x.1.1.1

unfoldable pub get_at : Shape → List ℕ → Result Event ℕ
get_at shape = whole make_get (field_at user ▷ field_at path ▷ field_at version ▷ field_at (sources shape))

abbrev pub make_list : ℕ × ℕ → Event
make_list x = events.List (record { 0 = x.0 }) (record { 0 = x.1 })

unfoldable pub list_at : Shape → List ℕ → Result Event ℕ
list_at shape = whole make_list (field_at user ▷ field_at (cloud shape))

abbrev pub make_arm : ℕ × (ℕ × ℕ) → Event
make_arm x = events.Arm (record { 0 = x.0 }) x.1.0 x.1.1

unfoldable pub arm_at : Shape → List ℕ → Result Event ℕ
arm_at shape = whole make_arm (field_at (cloud shape) ▷ field_at (number 0 4294967295) ▷ field_at (number 0 4294967295))

abbrev pub make_rebuild : ℕ × (ℕ × List ℕ) → Event
make_rebuild x = events.Rebuild (record { 0 = x.0 }) (record { 0 = x.1.0 }) x.1.1

-- none of the clouds that are read is the target
unfoldable pub rebuild_at : Shape → List ℕ → Result Event ℕ
rebuild_at shape = whole make_rebuild (field_at user ▷ (field_at (cloud shape) ▷▷ λ target. field_at (others shape target)))

abbrev pub make_delete : ℕ × (List ℕ × (ℕ × ℕ)) → Event
make_delete x = events.Delete (record { 0 = x.0 }) x.1.0 (record { 0 = x.1.1.0 }) (record { 0 = x.1.1.1 })

unfoldable pub delete_at : Shape → List ℕ → Result Event ℕ
delete_at shape = whole make_delete (field_at user ▷ field_at path ▷ field_at version ▷ field_at (cloud shape))

abbrev pub make_step : ℕ × ℕ → Event
make_step x = events.Step x.0 (record { 0 = x.1 })

abbrev pub make_lose : ℕ × ℕ → Event
make_lose x = events.Lose x.0 (record { 0 = x.1 })

abbrev pub make_drop : ℕ × ℕ → Event
make_drop x = events.Drop x.0 (record { 0 = x.1 })

abbrev pub make_finish : ℕ → Event
make_finish x = events.Finish x

abbrev pub make_restart : ℕ → Event
make_restart x = events.Restart (record { 0 = x })

abbrev pub make_replace : ℕ → Event
make_replace x = events.Replace (record { 0 = x })

-- what was read, as something else
abbrev pub read_as : {A B : Type 0} → (A → B) → Result A ℕ → Result B ℕ
read_as make (Ok x) = Ok (make x)
read_as make (Err left) = Err left

-- what follows the first word
abbrev pub fields_at : Shape → ℕ → FirstWord → List ℕ → Result Event ℕ
fields_at shape jobs commands.Upload bytes = upload_at bytes
fields_at shape jobs commands.Step bytes = read_as make_step (lane_at shape jobs bytes)
fields_at shape jobs commands.Lose bytes = read_as make_lose (lane_at shape jobs bytes)
fields_at shape jobs commands.Drop bytes = read_as make_drop (lane_at shape jobs bytes)
fields_at shape jobs commands.Finish bytes = read_as make_finish (job_at jobs bytes)
fields_at shape jobs commands.Get bytes = get_at shape bytes
fields_at shape jobs commands.List bytes = list_at shape bytes
fields_at shape jobs commands.Arm bytes = arm_at shape bytes
fields_at shape jobs commands.Restart bytes = read_as make_restart (cloud_at shape bytes)
fields_at shape jobs commands.Replace bytes = read_as make_replace (cloud_at shape bytes)
fields_at shape jobs commands.Rebuild bytes = rebuild_at shape bytes
fields_at shape jobs commands.Delete bytes = delete_at shape bytes

unfoldable pub event_left : Shape → ℕ → List ℕ → Result Event ℕ
event_left shape jobs line = do
  c ← word_at (command jobs) line
  fields_at shape jobs c.0 c.1

-- what a further line says, where so many uploads came before it
unfoldable pub event_at : Shape → ℕ → List ℕ → Result Event Fault
event_at shape jobs line = placed line (event_left shape jobs line)

-- ---- the first line

abbrev pub shape_with : ℕ → Option ℕ → Option Shape
shape_with n None = None
shape_with n (Some k) = shape_of n k

-- the shape of n clouds and so many needed ones
unfoldable pub needed : ℕ → List ℕ → Option Shape
needed n text = shape_with n (number 0 255 text)

-- N is any number, and K fails where the pair is no shape; so N stands for 255 where it is more.
unfoldable pub shape_at : List ℕ → Result (Shape × List ℕ) ℕ
shape_at bytes = field_at (capped 255) bytes >>= λ n. field_at (needed n.0) n.1

-- what each of so many users holds, where all of them together hold no more than the most
abbrev pub each_room : ℕ → ℕ → List ℕ → Option ℕ
each_room most users = number 0 (most / users)

-- Each number has a range of its own, which how many users there are bounds: so the first that breaks it is wrong at its
-- place.
unfoldable pub named_rooms_at : List ℕ → Result UserRooms ℕ
named_rooms_at = whole make_rooms (field_at (number 1 256) ▷▷ λ users. field_at (each_room most_shares users) ▷ field_at (each_room most_recipes users)
    ▷ field_at (each_room most_owners users) ▷ field_at (each_room most_files users))

-- the usual rooms where none are named
abbrev pub rooms_at : List ℕ → Result UserRooms ℕ
rooms_at [] = Ok usual_rooms
rooms_at (b ∷ bytes) = named_rooms_at (b ∷ bytes)

unfoldable pub header_left : List ℕ → Result (Shape × UserRooms) ℕ
header_left line = do
  name ← word_at (literal (codes "cdstore")) line
  form ← field_at (literal (codes "1")) name.1
  shape ← shape_at form.1
  rooms ← rooms_at shape.1
  Ok (shape.0, rooms)

-- what the first line says
unfoldable pub header_at : List ℕ → Result (Shape × UserRooms) Fault
header_at line = placed line (header_left line)
