-- What commit_journal says, for callers.
pub use Rattle.cloud_opening.specs.CommitJournal.Openings
pub use Rattle.cloud_opening.specs.CommitJournal.errors
