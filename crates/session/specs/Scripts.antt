-- A script as a first line and the lines behind it.
use Rattle.std.specs.Prelude.{◌≡◌, ℕ, ◌+◌, List, [], ◌∷◌, length, Option, Some, None, Result, Ok, Err}
use Rattle.journal_start.specs.CdBase.shape.Shape.{Shape}
use Rattle.journal_start.specs.declared.rooms.UserRooms.{UserRooms}
use Rattle.session.specs.Fault.{Fault}
use Rattle.session.specs.Lines.{next_line, after_line}
use Rattle.session.specs.Reading.{header_at, event_at}
use Rattle.session.specs.Spelling.{FitsEvent, IsTyped}
use Rattle.session.specs.declared.event.Event.{Event}
use Rattle.session.specs.declared.event.Event.TheVariants as events

-- how many uploads there are behind a line
abbrev pub jobs_after : ℕ → Event → ℕ
jobs_after jobs (events.Upload user path version bytes) = jobs + 1
jobs_after jobs (events.Step job lane) = jobs
jobs_after jobs (events.Lose job lane) = jobs
jobs_after jobs (events.Drop job lane) = jobs
jobs_after jobs (events.Finish job) = jobs
jobs_after jobs (events.Get user path version clouds) = jobs
jobs_after jobs (events.List user cloud) = jobs
jobs_after jobs (events.Arm cloud calls keep) = jobs
jobs_after jobs (events.Restart cloud) = jobs
jobs_after jobs (events.Replace cloud) = jobs
jobs_after jobs (events.Rebuild user target from) = jobs
jobs_after jobs (events.Delete user path version cloud) = jobs

abbrev pub jobs_of : ℕ → List Event → ℕ
jobs_of jobs [] = jobs
jobs_of jobs (event ∷ events) = jobs_of (jobs_after jobs event) events

-- each line is in its ranges
abbrev pub AreLines : Shape → ℕ → List Event → Type 0
AreLines shape jobs [] = Unit {0}
AreLines shape jobs (event ∷ events) = FitsEvent shape jobs event × IsTyped event × AreLines shape (jobs_after jobs event) events

-- a place in a script: how many uploads and how many of its bytes came before, and the bytes that are left
pub record ScriptPlace : Type 0 where
  pub jobs : ℕ
  pub taken : ℕ
  pub rest : List ℕ

-- the place behind a line
abbrev pub behind : ScriptPlace → List ℕ → Event → ScriptPlace
behind place line event = record { jobs = jobs_after place.jobs event; taken = place.taken + length line + 1; rest = after_line place.rest }

-- the next line says this
pub record Says (shape : Shape) (place : ScriptPlace) (event : Event) (next : ScriptPlace) : Type 0 where
  pub line : List ℕ
  pub here : next_line place.taken place.rest ≡ Ok (Some line)
  pub says : event_at shape place.jobs line ≡ Ok event
  pub next_is : next ≡ behind place line event

-- the next lines say this, one after another
abbrev pub LeadsThrough : Shape → ScriptPlace → List Event → ScriptPlace → Type 0
LeadsThrough shape place [] last = last ≡ place
LeadsThrough shape place (event ∷ events) last = (next : ScriptPlace) × Says shape place event next
    × LeadsThrough shape next events last

-- the script begins with this first line
pub record Begins (script : List ℕ) (shape : Shape) (rooms : UserRooms) (place : ScriptPlace) : Type 0 where
  pub line : List ℕ
  pub here : next_line 0 script ≡ Ok (Some line)
  pub says : header_at line ≡ Ok (shape, rooms)
  pub next_is : place ≡ record { jobs = 0; taken = length line + 1; rest = after_line script }

-- so many lines of the script were read, and it goes on at this place
abbrev pub Reaches : List ℕ → Shape → UserRooms → List Event → ScriptPlace → Type 0
Reaches script shape rooms events place = (first : ScriptPlace) × Begins script shape rooms first × LeadsThrough shape first events place

-- the script ends here
abbrev pub IsEnd : ScriptPlace → Type 0
IsEnd place = next_line place.taken place.rest ≡ Ok None

-- how a line fails that was read so
abbrev pub FailsIn : Shape → ℕ → Result (Option (List ℕ)) Fault → Fault → Type 0
FailsIn shape jobs (Err fault) found = fault ≡ found
FailsIn shape jobs (Ok None) found = ⊥
FailsIn shape jobs (Ok (Some line)) found = event_at shape jobs line ≡ Err found

-- the next line is wrong at this place of it
abbrev pub IsWrong : Shape → ScriptPlace → Fault → Type 0
IsWrong shape place fault = FailsIn shape place.jobs (next_line place.taken place.rest) fault

abbrev pub FailsFirst : Result (Option (List ℕ)) Fault → Fault → Type 0
FailsFirst (Err fault) found = fault ≡ found
FailsFirst (Ok None) found = ⊥
FailsFirst (Ok (Some line)) found = header_at line ≡ Err found

-- the first line is wrong at this place of it
abbrev pub IsWrongFirst : List ℕ → Fault → Type 0
IsWrongFirst script fault = FailsFirst (next_line 0 script) fault
