-- What commit_journal says, for callers.
pub use Rattle.cloud_disk.specs.CommitJournal.Openings
pub use Rattle.cloud_disk.specs.CommitJournal.Outcomes
pub use Rattle.cloud_disk.specs.CommitJournal.States
pub use Rattle.cloud_disk.specs.CommitJournal.errors
pub use Rattle.cloud_disk.specs.CommitJournal.journal
