-- What journal_start has proved, for callers.
pub use Rattle.checkpoints.proofs.JournalStart.Lengths
pub use Rattle.checkpoints.proofs.JournalStart.Whole
