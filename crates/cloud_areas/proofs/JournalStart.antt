-- What journal_start has proved, for callers.
pub use Rattle.journal_halves.proofs.JournalStart.Whole
