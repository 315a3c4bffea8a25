-- What journal_halves has proved, for callers.
pub use Rattle.commit_journal.proofs.JournalHalves.Current
