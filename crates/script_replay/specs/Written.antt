-- What a replay of a script writes, and its whole promise.
use Rattle.std.specs.Prelude.{◌≡◌, ℕ, ◌⊎◌, List, [], ◌++◌, length, Option, IsTrue}
use Rattle.std.specs.Io.KnownBytes.{Appends}
use Rattle.two_worlds.specs.Transcript.line.Line.TheVariants as lines
use Rattle.two_worlds.specs.Session.Texts.{text_of}
use Rattle.two_worlds.specs.Transcript.Transcript.{line_text}
use Rattle.replay_core.specs.declared.end.ReplayEnd.{ReplayEnd}
use Rattle.replay_core.specs.declared.end.ReplayEnd.TheVariants as ends
use Rattle.script_lines.specs.SessionModel.Headline.{Session, due}
use Rattle.replay_core.specs.Replayed.{Replayed, status_of}
use Rattle.script_replay.specs.Endings.{ReplayCall, DoneEnding, IsDue, HasStatusCause, ending_of}

-- nothing, or the line `done` where it is due
abbrev pub IsLast : ReplayCall → Session → List ℕ → Type 0
IsLast call run last =
    (last ≡ [])
    ⊎ ((last ≡ line_text (lines.Done (length run.history))) × IsDue call run (DoneEnding (length run.history)))

-- a front of the text that was due was written
pub record IsTextCut (call : ReplayCall) (run : Session) (before after : Option (List ℕ)) : Type 0 where
  pub last : List ℕ
  pub last_is : IsLast call run last
  pub text : List ℕ
  pub more : List ℕ
  pub front : text ++ more ≡ text_of (due run) ++ last
  pub written : Appends before after text

-- What was written: with Done the lines that were answered and `done`; where the sink failed or memory ran out a front
-- of what was due; and else all lines that were answered. The other ending lines aren't written here.
abbrev pub IsPrinted : ReplayEnd → ReplayCall → Session → Option (List ℕ) → Option (List ℕ) → Type 0
IsPrinted (ends.Done events) call run before after =
    Appends before after (text_of (due run) ++ line_text (lines.Done events))
IsPrinted ends.SinkFault call run before after = IsTrue run.opened × IsTextCut call run before after
IsPrinted ends.NoMemory call run before after = IsTextCut call run before after
IsPrinted end call run before after = Appends before after (text_of (due run))

-- The whole promise of a replay.
pub record HasReplayed (end : ReplayEnd) (call : ReplayCall) (before after : Option (List ℕ)) : Type 0 where
  pub run : Session
  pub replayed : Replayed (status_of end) call.old call.new run
  pub cause : HasStatusCause (status_of end) call run (ending_of end)
  pub printed : IsPrinted end call run before after
