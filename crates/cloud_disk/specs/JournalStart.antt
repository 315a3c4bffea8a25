-- What journal_start says, for callers.
pub use Rattle.commit_journal.specs.JournalStart.Ranges
pub use Rattle.commit_journal.specs.JournalStart.Reading
pub use Rattle.commit_journal.specs.JournalStart.Spelling
pub use Rattle.commit_journal.specs.JournalStart.fault
pub use Rattle.commit_journal.specs.JournalStart.rooms
pub use Rattle.commit_journal.specs.JournalStart.start
