-- What journal_start says, for callers.
pub use Rattle.journal_halves.specs.JournalStart.Ranges
pub use Rattle.journal_halves.specs.JournalStart.Reading
pub use Rattle.journal_halves.specs.JournalStart.Spelling
pub use Rattle.journal_halves.specs.JournalStart.fault
pub use Rattle.journal_halves.specs.JournalStart.rooms
pub use Rattle.journal_halves.specs.JournalStart.start
