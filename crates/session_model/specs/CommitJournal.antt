-- What commit_journal says, for callers.
pub use Rattle.local_link.specs.CommitJournal.Openings
pub use Rattle.local_link.specs.CommitJournal.errors
