-- Which ends of a session still want their last line, and what comes of it.
use Rattle.std.specs.Prelude.{◌≡◌, ℕ, List, Option}
use Rattle.std.specs.Io.KnownBytes.{Appends}
use Rattle.delete_command.specs.CdEdges.Causes.{Rose}
use Rattle.generated_session.specs.ReplayCore.end.ReplayEnd.{ReplayEnd}
use Rattle.generated_session.specs.ReplayCore.end.ReplayEnd.TheVariants as ends
use Rattle.generated_session.specs.ReplayCore.Replayed.{status_of}
use Rattle.script_replay.specs.Endings.{ending_of}
use Rattle.cd_top.specs.Replay.{ending_text, WritesFront}

-- a last line is due that isn't written yet
abbrev pub WantsLast : ReplayEnd → Type 0
WantsLast (ends.Done events) = ⊥
WantsLast (ends.Script line at found) = Unit {0}
WantsLast ends.SourceFault = ⊥
WantsLast ends.SinkFault = ⊥
WantsLast (ends.ShelfFault cloud) = Unit {0}
WantsLast ends.NoMemory = ⊥
WantsLast (ends.NotEmpty cloud area len) = Unit {0}
WantsLast (ends.Damaged cloud at byte) = Unit {0}

-- none is, or it is written
abbrev pub WantsNone : ReplayEnd → Type 0
WantsNone (ends.Done events) = Unit {0}
WantsNone (ends.Script line at found) = ⊥
WantsNone ends.SourceFault = Unit {0}
WantsNone ends.SinkFault = Unit {0}
WantsNone (ends.ShelfFault cloud) = ⊥
WantsNone ends.NoMemory = Unit {0}
WantsNone (ends.NotEmpty cloud area len) = ⊥
WantsNone (ends.Damaged cloud at byte) = ⊥

-- What comes of the last line of an end, whatever stands before it: none is due, and nothing is written; it is written;
-- the sink failed within it; or memory ran out before it.
pub data HasLastLine (end : ReplayEnd) (status : ℕ) (before after : Option (List ℕ)) (faults now : ℕ) : Type 0 where
  Silent : WantsNone end → status ≡ status_of end → after ≡ before → now ≡ faults
      → HasLastLine end status before after faults now
  Said : WantsLast end → status ≡ status_of end → Appends before after (ending_text (ending_of end)) → now ≡ faults
      → HasLastLine end status before after faults now
  CutShort : WantsLast end → status ≡ 4 → WritesFront (ending_text (ending_of end)) before after → Rose faults now
      → HasLastLine end status before after faults now
  Unsaid : WantsLast end → status ≡ 6 → after ≡ before → now ≡ faults
      → HasLastLine end status before after faults now
