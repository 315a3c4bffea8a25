-- What journal_start says, for callers.
pub use Rattle.user_dedup.specs.JournalStart.Ranges
pub use Rattle.user_dedup.specs.JournalStart.rooms
pub use Rattle.user_dedup.specs.JournalStart.start
