-- What journal_start has proved, for callers.
pub use Rattle.commit_journal.proofs.JournalStart.Lengths
pub use Rattle.commit_journal.proofs.JournalStart.Whole
