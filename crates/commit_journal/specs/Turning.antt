-- What a writer of a checkpoint knows of it.
use Rattle.std.specs.Prelude.{◌≡◌, ℕ, ◌+◌, List, [], length}
use Rattle.journal_halves.specs.CdEdges.Disk.{Store}
use Rattle.journal_halves.specs.JournalStart.start.Start.{Start}
use Rattle.journal_halves.specs.JournalStart.Spelling.{records_of}
use Rattle.journal_halves.specs.Journals.{Where, IsCheckpointLaid}
use Rattle.commit_journal.specs.declared.writer.CheckpointWriter.{CheckpointWriter}

pub record WriterState : Type 0 where
  pub half : ℕ  -- the half in which it is laid
  pub written : ℕ  -- how many bytes behind the half's first gate are written
  pub waiting : List ℕ  -- the bytes that come behind them
  pub left : ℕ  -- how many of its records are to come

abbrev pub state_of : CheckpointWriter → WriterState
state_of writer = record { half = writer.half; written = writer.written; waiting = writer.waiting; left = writer.left }

-- the places of the half that its chain takes so far, with both gates
abbrev pub used_of : WriterState → ℕ
used_of state = state.written + length state.waiting + 2

-- a checkpoint that has no record yet
abbrev pub begun_with : ℕ → Start → Where
begun_with half start = record { half = half; start = start; bodies = [] }

-- The checkpoint is being laid behind the chain of `w`: so many of its bytes are written, these wait, and so many of the
-- records that its start names are to come.
pub record IsWriterLaying (state : WriterState) (store : Store) (w next : Where) : Type 0 where
  pub half : state.half ≡ next.half
  pub bytes : List ℕ
  pub count : state.written ≡ length bytes
  pub laid : IsCheckpointLaid store w next bytes state.waiting
  pub left : length next.bodies + state.left ≡ records_of next.start.checkpoint
