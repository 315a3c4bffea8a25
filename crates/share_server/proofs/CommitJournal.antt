-- What commit_journal has proved, for callers.
pub use Rattle.blob_copy.proofs.CommitJournal.Opening
