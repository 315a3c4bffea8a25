-- What commit_journal has proved, for callers.
pub use Rattle.cloud_disk.proofs.CommitJournal.Opening
