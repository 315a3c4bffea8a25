-- What commit_journal says, for callers.
pub use Rattle.cloud_store.specs.CommitJournal.Leaving
pub use Rattle.cloud_store.specs.CommitJournal.Openings
pub use Rattle.cloud_store.specs.CommitJournal.Outcomes
pub use Rattle.cloud_store.specs.CommitJournal.States
pub use Rattle.cloud_store.specs.CommitJournal.errors
pub use Rattle.cloud_store.specs.CommitJournal.journal
