-- What journal_start has proved, for callers.
pub use Rattle.journal_start.proofs.Lengths
pub use Rattle.journal_start.proofs.Whole
