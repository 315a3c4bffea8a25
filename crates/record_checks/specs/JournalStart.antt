-- What journal_start says, for callers.
pub use Rattle.cloud_memory.specs.JournalStart.Ranges
pub use Rattle.cloud_memory.specs.JournalStart.Spelling
pub use Rattle.cloud_memory.specs.JournalStart.rooms
pub use Rattle.cloud_memory.specs.JournalStart.start
