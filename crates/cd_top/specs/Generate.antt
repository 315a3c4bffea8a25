-- What the words `gen SEED FILES PIECES DIR` promise.
use Rattle.std.specs.Prelude.{◌≡◌, ◌⊎◌, ℕ, ◌<◌, false, IsTrue, List, ◌++◌, length, Option}
use Rattle.std.specs.Io.KnownBytes.{Appends}
use Rattle.command_words.specs.JournalStart.Ranges.{usual_rooms}
use Rattle.delete_command.specs.CdEdges.Causes.{Rose}
use Rattle.two_worlds.specs.Session.event.Event.{Event}
use Rattle.generated_session.specs.SessionModel.Kept.{uploads}
use Rattle.generated_session.specs.SessionModel.Run.{script_of}
use Rattle.generated_session.specs.SessionModel.Headline.{Session, script_in}
use Rattle.generated_session.specs.ReplayCore.end.ReplayEnd.{ReplayEnd}
use Rattle.generated_session.specs.ReplayCore.end.ReplayEnd.TheVariants as ends
use Rattle.generated_session.specs.ReplayCore.Opening.{AreEmptyBelow, AreSpared, IsFirstFilled}
use Rattle.generated_session.specs.ReplayCore.Replayed.{Replayed, status_of}
use Rattle.script_replay.specs.Endings.{ending_of}
use Rattle.generated_session.specs.declared.numbers.Numbers.{Numbers}
use Rattle.generated_session.specs.Lines.{generated_lines}
use Rattle.generated_session.specs.Numbers.{HasNumbers, summary_text}
use Rattle.generated_session.specs.Generates.{Order, IsSessionWhole}
use Rattle.command_words.specs.Asked.{AskedSession}
use Rattle.cd_top.specs.Complete.{IsNewCloud, IsStill}
use Rattle.cd_top.specs.Read.{Around, IsReadUntouched}
use Rattle.cd_top.specs.Replay.{ending_text, WritesFront}

-- the session that is asked for
abbrev pub order_of : AskedSession → Order
order_of g = record { seed = g.seed; files = g.files; pieces = g.pieces }

-- It is the generated session: over four clouds of which three give a file back, in the usual rooms, and its lines
-- are those that the generated lines begin with, one that was begun and not answered among them.
pub record IsOrdered (order : Order) (run : Session) : Type 0 where
  pub shape : (run.setting.shape.n ≡ 4) × (run.setting.shape.k ≡ 3)
  pub rooms : run.setting.rooms ≡ usual_rooms
  pub lines : (rest : List Event) × (script_in run ++ rest ≡ generated_lines order.seed order.files order.pieces)

-- Why the session came to this end: all its lines were answered; or no cloud was opened, since the one that is named
-- failed, wasn't empty, or, where nothing is told of it, was damaged. Want of memory alone has no cause.
abbrev pub IsSessionCaused : ReplayEnd → Order → Around → Session → Type 0
IsSessionCaused (ends.Done events) order c run = IsSessionWhole order run × (events ≡ length run.history)
IsSessionCaused ends.NoMemory order c run = Unit {0}
IsSessionCaused (ends.ShelfFault cloud) order c run =
    (run.opened ≡ false) × (cloud.0 < 4) × Rose (run.last cloud.0).faults (c.new cloud.0).faults
    × AreEmptyBelow c.old cloud.0
IsSessionCaused (ends.NotEmpty cloud area len) order c run =
    (run.opened ≡ false) × (cloud.0 < 4) × IsFirstFilled c.old cloud.0 area len
    × ((other : ℕ) → c.new other ≡ c.old other)
IsSessionCaused (ends.Damaged cloud at byte) order c run =
    (run.opened ≡ false) × (cloud.0 < 4) × ((c.old cloud.0).told ≡ false) × AreEmptyBelow c.old 4
IsSessionCaused (ends.Script line at found) order c run = ⊥
IsSessionCaused ends.SourceFault order c run = ⊥
IsSessionCaused ends.SinkFault order c run = ⊥

-- The text that is due then: the summary, which has the numbers of the session; or the line that says why there is
-- none; for want of memory nothing.
abbrev pub IsTextDue : ReplayEnd → Order → Session → List ℕ → Type 0
IsTextDue (ends.Done events) order run text =
    (numbers : Numbers) × HasNumbers (uploads (script_of run.history)) run.history numbers
    × (text ≡ summary_text order.files numbers)
IsTextDue end order run text = text ≡ ending_text (ending_of end)

-- All of it was written, and the status is that of the end; or the sink failed within it.
pub data IsSessionClosed (status : ℕ) (end : ReplayEnd) (text : List ℕ) (c : Around) (before after : Option (List ℕ))
    : Type 0 where
  Whole : status ≡ status_of end → Appends before after text → c.sink_after ≡ c.sink_before
      → IsSessionClosed status end text c before after
  Short : status ≡ 4 → WritesFront text before after → Rose c.sink_before c.sink_after
      → IsSessionClosed status end text c before after

-- A session came to this end. Of it all holds that holds of a replay: with 0 its final counts are the shelf's, and each
-- disk that a crash may leave stands for a list of its cloud.
pub record IsMadeTo (status : ℕ) (c : Around) (order : Order) (before after : Option (List ℕ)) (end : ReplayEnd)
    : Type 0 where
  pub run : Session
  pub replayed : Replayed status c.old c.new run
  pub ordered : IsOrdered order run
  -- no line arms
  pub unarmed : (cloud : ℕ) → (c.new cloud).armings ≡ (c.old cloud).armings
  -- the clouds were opened only where the areas of each that is told were empty
  pub began : IsTrue run.opened → AreEmptyBelow c.old 4
  -- where one of them isn't empty, nothing was written, whatever the status
  pub spared : AreSpared 4 c.old c.new
  pub cause : IsSessionCaused end order c run
  pub text : List ℕ
  pub due : IsTextDue end order run text
  pub closed : IsSessionClosed status end text c before after

-- DIR failed, and nothing was done; or a session came to an end.
pub data HasMadeOrCause (status : ℕ) (c : Around) (order : Order) (before after : Option (List ℕ)) : Type 0 where
  NoPlace : status ≡ 5 → IsReadUntouched c before after → Rose c.total_before c.total_after
      → HasMadeOrCause status c order before after
  MadeTo : (end : ReplayEnd) → IsMadeTo status c order before after end → HasMadeOrCause status c order before after

-- the four clouds are told and empty, and no count of theirs, of the shelf and of the sink rises
pub record NothingFails (c : Around) : Type 0 where
  pub clouds : (cloud : ℕ) → cloud < 4 → IsNewCloud (c.old cloud)
  pub counts : (cloud : ℕ) → cloud < 4 → IsStill (c.old cloud).faults (c.new cloud).faults
  pub total : IsStill c.total_before c.total_after
  pub sink : IsStill c.sink_before c.sink_after

-- The whole promise. Where nothing fails, the summary was written, or memory ran out.
pub record IsGenerated (status : ℕ) (c : Around) (g : AskedSession) (before after : Option (List ℕ)) : Type 0 where
  pub made : HasMadeOrCause status c (order_of g) before after
  pub complete : NothingFails c → (status ≡ 0) ⊎ (status ≡ 6)
