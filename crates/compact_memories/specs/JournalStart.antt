-- What journal_start says, for callers.
pub use Rattle.compact_lists.specs.JournalStart.rooms
