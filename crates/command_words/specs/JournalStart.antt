-- What journal_start says, for callers.
pub use Rattle.session.specs.JournalStart.Ranges
pub use Rattle.session.specs.JournalStart.rooms
