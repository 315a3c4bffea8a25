-- What commit_journal says, for callers.
pub use Rattle.checkpoints.specs.CommitJournal.Leaving
pub use Rattle.checkpoints.specs.CommitJournal.Openings
pub use Rattle.checkpoints.specs.CommitJournal.Outcomes
pub use Rattle.checkpoints.specs.CommitJournal.States
pub use Rattle.checkpoints.specs.CommitJournal.errors
pub use Rattle.checkpoints.specs.CommitJournal.journal
