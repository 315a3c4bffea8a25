-- What journal_halves says, for callers.
pub use Rattle.commit_journal.specs.JournalHalves.Beginnings
pub use Rattle.commit_journal.specs.JournalHalves.Halves
pub use Rattle.commit_journal.specs.JournalHalves.Journals
