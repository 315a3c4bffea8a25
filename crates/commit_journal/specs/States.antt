-- What a journal in two halves knows.
use Rattle.std.specs.Prelude.{◌≡◌, ℕ, ◌+◌, ◌-◌, ◌*◌, ◌%◌, ◌≤◌, List, [], length, Some, None}
use Rattle.journal_halves.specs.CdEdges.Disk.{Store}
use Rattle.journal_halves.specs.JournalStart.start.Header.{Header}
use Rattle.journal_halves.specs.JournalStart.start.Start.{Start}
use Rattle.journal_halves.specs.JournalStart.Spelling.{epoch_of, records_of}
use Rattle.journal_halves.specs.Halves.{IsCurrent}
use Rattle.journal_halves.specs.Journals.{Where, all_bodies}
use Rattle.journal_halves.specs.States as records
use Rattle.commit_journal.specs.Turning as writer
use Rattle.commit_journal.specs.declared.journal.Journal.{Journal}
use Rattle.commit_journal.specs.declared.journal.Stage.{Stage}

-- what a journal shows
pub record JournalState : Type 0 where
  pub limit : ℕ  -- the most places of a half that a chain takes
  pub stage : Stage
  pub start : Start  -- what the current half's chain begins with
  pub left : ℕ  -- how many records of its checkpoint weren't read yet
  pub current : records.HalfState  -- the records of the current half
  pub next : Start  -- what the checkpoint that is laid begins with
  pub laid : writer.WriterState

abbrev pub state_of : Journal → JournalState
state_of j = record {
  limit = j.limit;
  stage = j.stage;
  start = j.start;
  left = j.left;
  current = records.state_of j.records;
  next = j.next;
  laid = writer.state_of j.writer;
}

-- The current half's records before the gate were read, and they are those of the chain so far.
pub record IsJournalReading (state : JournalState) (store : Store) (w : Where) : Type 0 where
  pub half : state.current.half ≡ w.half
  pub start : state.start ≡ w.start
  pub is_current : IsCurrent store.read w.half w.start
  pub read : records.IsHalfReading state.current store (all_bodies w)
  pub left : state.left ≡ records_of w.start.checkpoint - length w.bodies

-- All of the area is on the disk, the current half has this chain, and the gate is the closed one behind it.
pub record IsJournalEnded (state : JournalState) (store : Store) (w : Where) : Type 0 where
  pub half : state.current.half ≡ w.half
  pub start : state.start ≡ w.start
  pub is_current : IsCurrent store.read w.half w.start
  pub read : records.IsEnded state.current store (all_bodies w)
  pub full : records_of w.start.checkpoint ≤ length w.bodies

-- A checkpoint is being laid in the other half, behind this chain.
pub record IsLaying (state : JournalState) (store : Store) (w next : Where) : Type 0 where
  pub half : state.current.half ≡ w.half
  pub start : state.next ≡ next.start
  pub laid : writer.IsWriterLaying state.laid store w next

-- the start that a checkpoint behind this chain has
abbrev pub next_start : Start → Header → ℕ → ℕ → ℕ → Start
next_start start header commands records region = record {
  header = header;
  checkpoint = Some (record { epoch = (epoch_of start.checkpoint + 1) % 3; commands = commands; records = records; region = region; recipes_end = 0 });
}

-- a checkpoint in the other half that has no record yet
abbrev pub next_of : Where → Header → ℕ → ℕ → ℕ → Where
next_of w header commands records region = record { half = 1 - w.half; start = next_start w.start header commands records region; bodies = [] }
