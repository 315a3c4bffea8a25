-- What journal_start has proved, for callers.
pub use Rattle.cloud_disk.proofs.JournalStart.Lengths
pub use Rattle.cloud_disk.proofs.JournalStart.Whole
