-- What the words `replay DIR` promise.
use Rattle.std.specs.Prelude.{◌≡◌, ℕ, ◌⊎◌, List, [], ◌∷◌, ◌++◌, codes, Option, Result, Ok, Err}
use Rattle.std.specs.Io.KnownBytes.{Appends}
use Rattle.delete_command.specs.CdEdges.Causes.{Rose}
use Rattle.two_worlds.specs.Transcript.ending.Ending.TheVariants as endings
use Rattle.two_worlds.specs.Transcript.line.Line.TheVariants as lines
use Rattle.two_worlds.specs.Transcript.Endings as texts
use Rattle.two_worlds.specs.Transcript.Transcript.{line_text}
use Rattle.generated_session.specs.SessionModel.Steps.{cloud_no}
use Rattle.two_worlds.specs.Session.Texts.{text_of}
use Rattle.generated_session.specs.SessionModel.Headline.{Session, due}
use Rattle.script_replay.specs.Endings.{ReplayCall, EndingLine, HasStatusCause}
use Rattle.script_replay.specs.Endings as due_lines
use Rattle.generated_session.specs.ReplayCore.Replayed.{Replayed}
use Rattle.cd_top.specs.declared.ending.LastErr.{LastErr}
use Rattle.cd_top.specs.declared.ending.LastErr.TheVariants as errors

-- the words are `replay` and one more
abbrev pub IsReplay : List (List ℕ) → Type 0
IsReplay words = (directory : List ℕ) × (words ≡ codes "replay" ∷ directory ∷ [])

-- the line's bytes with their newline
abbrev pub ending_text : EndingLine → List ℕ
ending_text due_lines.NoEnding = []
ending_text (due_lines.DoneEnding events) = line_text (lines.Done events)
ending_text (due_lines.ScriptEnding line fault) = texts.ending_text (endings.Script line fault.at fault.found)
ending_text (due_lines.ShelfEnding cloud) = texts.ending_text (endings.Shelf (cloud_no cloud))
ending_text (due_lines.StoreEnding cloud area len) = texts.ending_text (endings.Store (cloud_no cloud) area len)
ending_text (due_lines.DamagedEnding cloud at byte) = texts.ending_text (endings.Damaged (cloud_no cloud) at byte)

-- the text that is due: the session's lines, and then the ending line
abbrev pub due_text : Session → EndingLine → List ℕ
due_text run line = text_of (due run) ++ ending_text line

-- It is written whole with 0, 2, 5 and 7, and else a front of it.
pub record IsReplayWritten (status : ℕ) (before after : Option (List ℕ)) (run : Session)
    (line : EndingLine) : Type 0 where
  pub text : List ℕ
  pub more : List ℕ
  pub front : text ++ more ≡ due_text run line
  pub whole : (status ≡ 0) ⊎ ((status ≡ 2) ⊎ ((status ≡ 5) ⊎ (status ≡ 7))) → more ≡ []
  pub written : Appends before after text

-- The whole promise: the session, the text, and the cause of the status.
pub record IsReplayed (status : ℕ) (call : ReplayCall) (before after : Option (List ℕ)) : Type 0 where
  pub run : Session
  pub line : EndingLine
  pub replayed : Replayed status call.old call.new run
  pub text : IsReplayWritten status before after run line
  pub cause : HasStatusCause status call run line

-- ---- the last line

-- the call as it is when the sink has failed so often
abbrev pub until : ReplayCall → ℕ → ReplayCall
until call faults = record {
  script = call.script;
  left = call.left;
  source_before = call.source_before;
  source_after = call.source_after;
  sink_before = call.sink_before;
  sink_after = faults;
  total_before = call.total_before;
  total_after = call.total_after;
  old = call.old;
  new = call.new;
}

-- a front of these bytes was written
pub record WritesFront (bytes : List ℕ) (before after : Option (List ℕ)) : Type 0 where
  pub text : List ℕ
  pub more : List ℕ
  pub front : text ++ more ≡ bytes
  pub written : Appends before after text

-- These bytes were written; or the sink failed within them; or memory ran out before them.
abbrev pub WritesLast : List ℕ → Result (Unit {0}) LastErr → Option (List ℕ) → Option (List ℕ) → ℕ → ℕ
    → Type 0
WritesLast bytes (Ok u) before after faults now = Appends before after bytes × (now ≡ faults)
WritesLast bytes (Err errors.SinkFault) before after faults now = WritesFront bytes before after × Rose faults now
WritesLast bytes (Err errors.NoMemory) before after faults now = (after ≡ before) × (now ≡ faults)
