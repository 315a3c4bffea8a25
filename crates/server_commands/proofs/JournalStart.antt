-- What journal_start has proved, for callers.
pub use Rattle.cloud_store.proofs.JournalStart.Lengths
pub use Rattle.cloud_store.proofs.JournalStart.Whole
