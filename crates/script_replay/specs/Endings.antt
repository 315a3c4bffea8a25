-- Why a replay ends, by the status that is answered, and which last line is due then.
use Rattle.std.specs.Prelude.{◌≡◌, ◌≢◌, ℕ, ◌+◌, ◌<◌, ◌≤◌, ◌⊎◌, false, IsTrue, List, [], length, Option, Some, None, IfSome, if◌then◌else◌}
use Rattle.share_server.specs.CdEdges.area.Area.{Area}
use Rattle.share_server.specs.CdEdges.Causes.{Rose}
use Rattle.share_server.specs.CdEdges.Disk.{Cloud}
use Rattle.two_worlds.specs.Session.Fault.{Fault}
use Rattle.share_server.specs.CdBase.shape.Shape.{Shape}
use Rattle.share_server.specs.JournalStart.rooms.UserRooms.{UserRooms}
use Rattle.two_worlds.specs.Session.event.Event.TheVariants as events
use Rattle.two_worlds.specs.Session.Scripts.{ScriptPlace, Begins, Reaches, IsEnd, IsWrong, IsWrongFirst}
use Rattle.script_lines.specs.SessionModel.Steps.{cloud_no}
use Rattle.script_lines.specs.SessionModel.Headline.{Session, Begun, script_in}
use Rattle.replay_core.specs.declared.end.ReplayEnd.{ReplayEnd}
use Rattle.replay_core.specs.declared.end.ReplayEnd.TheVariants as ends
use Rattle.replay_core.specs.Opening.{AreEmptyBelow, AreSpared, IsFirstFilled}
use Rattle.replay_core.specs.Going.{ReplayStart}

-- what the outside tells of a call: the source's bytes before and after; the counts of the source, the sink and the
-- whole shelf before and after; and the clouds before and after
pub record ReplayCall : Type 0 where
  pub script : Option (List ℕ)
  pub left : Option (List ℕ)
  pub source_before : ℕ
  pub source_after : ℕ
  pub sink_before : ℕ
  pub sink_after : ℕ
  pub total_before : ℕ
  pub total_after : ℕ
  pub old : ℕ → Cloud
  pub new : ℕ → Cloud

-- a replay by its source, the count of its sink, and the count and the clouds of its shelf, each before and after
abbrev pub replay_call : Option (List ℕ) → Option (List ℕ) → ℕ → ℕ → ℕ → ℕ → ℕ → ℕ → (ℕ → Cloud) → (ℕ → Cloud) → ReplayCall
replay_call script left source source_after sink sink_after total total_after old new = record {
  script = script;
  left = left;
  source_before = source;
  source_after = source_after;
  sink_before = sink;
  sink_after = sink_after;
  total_before = total;
  total_after = total_after;
  old = old;
  new = new;
}

-- from where a replay began to here
abbrev pub call_of : ReplayStart → Option (List ℕ) → ℕ → ℕ → ℕ → (ℕ → Cloud) → ReplayCall
call_of start left source sink total new = record {
  script = start.script;
  left = left;
  source_before = start.source;
  source_after = source;
  sink_before = start.sink;
  sink_after = sink;
  total_before = start.total;
  total_after = total;
  old = start.old;
  new = new;
}

pub data EndingLine : Type 0 where
  NoEnding : EndingLine
  DoneEnding : (events : ℕ) → EndingLine
  ScriptEnding : (line : ℕ) (fault : Fault) → EndingLine
  ShelfEnding : (cloud : ℕ) → EndingLine
  StoreEnding : (cloud : ℕ) (area : Area) (len : ℕ) → EndingLine
  DamagedEnding : (cloud at byte : ℕ) → EndingLine

-- the last line that is due with an end
abbrev pub ending_of : ReplayEnd → EndingLine
ending_of (ends.Done events) = DoneEnding events
ending_of (ends.Script line at found) = ScriptEnding line (record { at = at; found = found })
ending_of ends.SourceFault = NoEnding
ending_of ends.SinkFault = NoEnding
ending_of (ends.ShelfFault cloud) = ShelfEnding cloud.0
ending_of ends.NoMemory = NoEnding
ending_of (ends.NotEmpty cloud area len) = StoreEnding cloud.0 area len
ending_of (ends.Damaged cloud at byte) = DamagedEnding cloud.0 at byte

-- the lines that were carried out are those that the script begins with, and it goes on at this place
abbrev pub HasReadLines : ReplayCall → Session → ScriptPlace → Type 0
HasReadLines call run place =
    IfSome call.script (λ script. Reaches script run.setting.shape run.setting.rooms (script_in run) place)

abbrev pub HasReadSome : ReplayCall → Session → Type 0
HasReadSome call run = (place : ScriptPlace) × HasReadLines call run place

-- the line behind those that were carried out is wrong at this place; before the clouds are opened that is the first
-- line
abbrev pub IsLineWrongAt : ReplayCall → Session → Fault → Type 0
IsLineWrongAt call run fault = IfSome call.script (λ script.
    ((run.opened ≡ false) × IsWrongFirst script fault)
    ⊎ (IsTrue run.opened × ((place : ScriptPlace) × HasReadLines call run place
    × IsWrong run.setting.shape place fault)))

-- where the script begins with a first line, that line says the session's shape and rooms
abbrev pub HasHeaderLine : ReplayCall → Session → Type 0
HasHeaderLine call run = IfSome call.script (λ script. (shape : Shape) (rooms : UserRooms) (place : ScriptPlace)
    → Begins script shape rooms place → (run.setting.shape ≡ shape) × (run.setting.rooms ≡ rooms))

-- A line was begun in which the shelf may fail outside an execution and outside an opening: the replacement of this cloud,
-- whose areas couldn't be made empty. The last state is then the one between the lines.
abbrev pub MayFailIn : Option Begun → ℕ → Type 0
MayFailIn None cloud = ⊥
MayFailIn (Some b) cloud = b.event ≡ events.Replace (cloud_no cloud)

-- what has happened where the ending line is due
abbrev pub IsDue : ReplayCall → Session → EndingLine → Type 0
IsDue call run NoEnding = Unit {0}
IsDue call run (DoneEnding events) =
    IsTrue run.opened × (run.begun ≡ None) × (events ≡ length run.history)
    × ((place : ScriptPlace) × HasReadLines call run place
    × IfSome call.script (λ script. IsEnd place × (call.left ≡ Some [])))
IsDue call run (ScriptEnding line fault) =
    (run.begun ≡ None) × (line ≡ (if run.opened then length run.history + 2 else 1)) × IsLineWrongAt call run fault
IsDue call run (ShelfEnding cloud) =
    (cloud < run.setting.shape.n) × HasReadSome call run × Rose (run.last cloud).faults (call.new cloud).faults
    × (((run.opened ≡ false) × AreEmptyBelow call.old cloud)
    ⊎ (MayFailIn run.begun cloud × (run.last ≡ run.between.peers)))
IsDue call run (StoreEnding cloud area len) =
    (run.opened ≡ false) × (cloud < run.setting.shape.n) × HasReadSome call run × IsFirstFilled call.old cloud area len
    × ((other : ℕ) → call.new other ≡ call.old other)
IsDue call run (DamagedEnding cloud at byte) =
    (run.opened ≡ false) × (cloud < run.setting.shape.n) × HasReadSome call run × ((call.old cloud).told ≡ false)
    × AreEmptyBelow call.old run.setting.shape.n

abbrev pub IsDoneLine : EndingLine → Type 0
IsDoneLine (DoneEnding events) = Unit {0}
IsDoneLine line = ⊥

abbrev pub IsOfScript : EndingLine → Type 0
IsOfScript (ScriptEnding line fault) = Unit {0}
IsOfScript line = ⊥

abbrev pub IsOfShelf : EndingLine → Type 0
IsOfShelf (ShelfEnding cloud) = Unit {0}
IsOfShelf line = ⊥

abbrev pub IsOfStore : EndingLine → Type 0
IsOfStore (StoreEnding cloud area len) = Unit {0}
IsOfStore (DamagedEnding cloud at byte) = Unit {0}
IsOfStore line = ⊥

-- the place that the shelf was to name couldn't be made or found, and each cloud is as it was
abbrev pub IsRootless : ReplayCall → Session → EndingLine → Type 0
IsRootless call run line =
    (line ≡ NoEnding) × (run.opened ≡ false) × Rose call.total_before call.total_after
    × ((cloud : ℕ) → call.new cloud ≡ call.old cloud)

-- The status has its cause. Want of memory, 6, has none.
pub record HasStatusCause (status : ℕ) (call : ReplayCall) (run : Session) (line : EndingLine) : Type 0 where
  pub known : (status ≤ 7) × (status ≢ 1)
  pub header : HasHeaderLine call run
  pub read : IsTrue run.opened → HasReadSome call run
  pub began : IsTrue run.opened → AreEmptyBelow call.old run.setting.shape.n
  -- where a told cloud isn't empty, nothing was written, whatever the status
  pub spared : AreSpared run.setting.shape.n call.old call.new
  pub due : IsDue call run line
  pub done : status ≡ 0 → IsDoneLine line
  pub wrong : status ≡ 2 → IsOfScript line
  pub source : status ≡ 3 → (line ≡ NoEnding) × (run.begun ≡ None) × Rose call.source_before call.source_after
  pub sink : status ≡ 4 → Rose call.sink_before call.sink_after
  pub sink_still : status ≢ 4 → status ≢ 6 → call.sink_after ≡ call.sink_before
  pub shelf : status ≡ 5 → IsOfShelf line ⊎ IsRootless call run line
  pub store : status ≡ 7 → IsOfStore line
