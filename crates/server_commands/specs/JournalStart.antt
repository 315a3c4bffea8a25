-- What journal_start says, for callers.
pub use Rattle.cloud_store.specs.JournalStart.Ranges
pub use Rattle.cloud_store.specs.JournalStart.Spelling
pub use Rattle.cloud_store.specs.JournalStart.rooms
pub use Rattle.cloud_store.specs.JournalStart.start
