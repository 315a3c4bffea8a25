-- What journal_start says, for callers.
pub use Rattle.cloud_disk.specs.JournalStart.Ranges
pub use Rattle.cloud_disk.specs.JournalStart.Spelling
pub use Rattle.cloud_disk.specs.JournalStart.rooms
pub use Rattle.cloud_disk.specs.JournalStart.start
