-- What journal_start says, for callers.
pub use Rattle.session.specs.JournalStart.rooms
pub use Rattle.session.specs.JournalStart.start
