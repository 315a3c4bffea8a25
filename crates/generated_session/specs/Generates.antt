-- What the generator promises: the session that was carried out, why it ended, and what is written of it.
use Rattle.std.specs.Prelude.{◌≡◌, ◌⊎◌, ℕ, ◌-◌, ◌^◌, ◌<◌, false, IsTrue, List, [], ◌++◌, length, Option, None}
use Rattle.std.specs.Io.KnownBytes.{Appends}
use Rattle.replay_core.specs.JournalStart.Ranges.{usual_rooms}
use Rattle.lane_steps.specs.CdEdges.area.Area.{Area}
use Rattle.lane_steps.specs.CdEdges.Causes.{Rose}
use Rattle.lane_steps.specs.CdEdges.Disk.{Cloud}
use Rattle.replay_core.specs.Session.event.Event.{Event}
use Rattle.replay_core.specs.SessionModel.Kept.{uploads}
use Rattle.replay_core.specs.SessionModel.Run.{script_of}
use Rattle.replay_core.specs.SessionModel.Headline.{Session, script_in}
use Rattle.replay_core.specs.declared.end.ReplayEnd.{ReplayEnd}
use Rattle.replay_core.specs.declared.end.ReplayEnd.TheVariants as ends
use Rattle.replay_core.specs.Opening.{IsEmptyAt, AreEmptyBelow, AreSpared, IsFirstFilled}
use Rattle.replay_core.specs.Replayed.{Replayed, status_of}
use Rattle.generated_session.specs.declared.numbers.Numbers.{Numbers}
use Rattle.generated_session.specs.Lines.{generated_lines}
use Rattle.generated_session.specs.Numbers.{HasNumbers, summary_text}

-- the session that is to be made
pub record Order : Type 0 where
  pub seed : ℕ
  pub files : ℕ
  pub pieces : ℕ

-- what the outside tells of a call: the sink's count and its bytes before and after, and the clouds before and after
pub record Passing : Type 0 where
  pub sink_before : ℕ
  pub sink_after : ℕ
  pub before : Option (List ℕ)
  pub after : Option (List ℕ)
  pub old : ℕ → Cloud
  pub new : ℕ → Cloud

-- a call by the count and the bytes of its sink, and the clouds, each before and after
abbrev pub session_call : ℕ → ℕ → Option (List ℕ) → Option (List ℕ) → (ℕ → Cloud) → (ℕ → Cloud) → Passing
session_call sink sink_after before after old new = record {
  sink_before = sink;
  sink_after = sink_after;
  before = before;
  after = after;
  old = old;
  new = new;
}

-- all its lines were answered
pub record IsSessionWhole (order : Order) (run : Session) : Type 0 where
  pub opened : IsTrue run.opened
  pub begun : run.begun ≡ None
  pub lines : script_of run.history ≡ generated_lines order.seed order.files order.pieces

-- no cloud was opened, the one that is named is one of the four, and the sink wasn't touched
pub record IsSessionUnopened (call : Passing) (run : Session) (cloud : ℕ) : Type 0 where
  pub opened : run.opened ≡ false
  pub below : cloud < 4
  pub sink : call.sink_after ≡ call.sink_before

-- Why it ended so. Want of memory alone has no cause.
abbrev pub IsCaused : ReplayEnd → Order → Passing → Session → Type 0
IsCaused (ends.Done events) order call run =
    IsSessionWhole order run × (events ≡ length run.history) × (call.sink_after ≡ call.sink_before)
IsCaused (ends.Script line at found) order call run = ⊥
IsCaused ends.SourceFault order call run = ⊥
IsCaused ends.SinkFault order call run = IsSessionWhole order run × Rose call.sink_before call.sink_after
IsCaused (ends.ShelfFault cloud) order call run =
    IsSessionUnopened call run cloud.0 × Rose (run.last cloud.0).faults (call.new cloud.0).faults
    × AreEmptyBelow call.old cloud.0
IsCaused (ends.NotEmpty cloud area len) order call run =
    IsSessionUnopened call run cloud.0 × IsFirstFilled call.old cloud.0 area len
    × ((other : ℕ) → call.new other ≡ call.old other)
IsCaused (ends.Damaged cloud at byte) order call run =
    IsSessionUnopened call run cloud.0 × ((call.old cloud.0).told ≡ false) × AreEmptyBelow call.old 4
IsCaused ends.NoMemory order call run = call.sink_after ≡ call.sink_before

-- a front of the summary was written, and nothing behind it
pub record WritesSummary (order : Order) (call : Passing) (run : Session) (rest : List ℕ) : Type 0 where
  pub numbers : Numbers
  pub are : HasNumbers (uploads (script_of run.history)) run.history numbers
  pub text : List ℕ
  pub front : text ++ rest ≡ summary_text order.files numbers
  pub written : Appends call.before call.after text

-- With Done the whole summary is written, where the sink failed a front of it, and else nothing.
abbrev pub IsSummaryWritten : ReplayEnd → Order → Passing → Session → Type 0
IsSummaryWritten (ends.Done events) order call run = WritesSummary order call run []
IsSummaryWritten ends.SinkFault order call run = (rest : List ℕ) × WritesSummary order call run rest
IsSummaryWritten end order call run = Appends call.before call.after []

-- The whole promise: of the clouds what each session promises, over four clouds of which three give a file back, in the
-- usual rooms. Its lines are those that the generated session begins with, the line that want of memory cut among them.
pub record Generates (end : ReplayEnd) (order : Order) (call : Passing) : Type 0 where
  pub run : Session
  pub replayed : Replayed (status_of end) call.old call.new run
  pub shape : (run.setting.shape.n ≡ 4) × (run.setting.shape.k ≡ 3)
  pub rooms : run.setting.rooms ≡ usual_rooms
  pub lines : (rest : List Event) × (script_in run ++ rest ≡ generated_lines order.seed order.files order.pieces)
  -- no line arms
  pub unarmed : (cloud : ℕ) → (call.new cloud).armings ≡ (call.old cloud).armings
  pub began : IsTrue run.opened → AreEmptyBelow call.old 4
  -- where a told cloud isn't empty, nothing was written, whatever the end
  pub spared : AreSpared 4 call.old call.new
  pub cause : IsCaused end order call run
  pub summed : IsSummaryWritten end order call run

-- ---- where nothing fails

-- the count didn't rise, and isn't at its last value
abbrev pub HasNotRisen : ℕ → ℕ → Type 0
HasNotRisen before now = (now ≡ before) × (before < 2 ^ 64 - 1)

-- the four clouds are told and empty, and no count of theirs and of the sink rises
pub record GoesWell (call : Passing) : Type 0 where
  pub told : (cloud : ℕ) → cloud < 4 → IsTrue (call.old cloud).told
  pub empty : (cloud : ℕ) (area : Area) → cloud < 4 → IsEmptyAt (call.old cloud) area
  pub counts : (cloud : ℕ) → cloud < 4 → HasNotRisen (call.old cloud).faults (call.new cloud).faults
  pub sink : HasNotRisen call.sink_before call.sink_after

-- all was done, or memory ran out
abbrev pub IsDone : ReplayEnd → Type 0
IsDone (ends.Done events) = Unit {0}
IsDone ends.NoMemory = Unit {0}
IsDone end = ⊥
