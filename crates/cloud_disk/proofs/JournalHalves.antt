-- What journal_halves has proved, for callers.
pub use Rattle.commit_journal.proofs.JournalHalves.Chain
pub use Rattle.commit_journal.proofs.JournalHalves.Current
pub use Rattle.commit_journal.proofs.JournalHalves.Headed
pub use Rattle.commit_journal.proofs.JournalHalves.Laying
pub use Rattle.commit_journal.proofs.JournalHalves.Unique
