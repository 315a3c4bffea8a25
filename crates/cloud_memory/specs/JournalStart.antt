-- What journal_start says, for callers.
pub use Rattle.cloud_areas.specs.JournalStart.Ranges
pub use Rattle.cloud_areas.specs.JournalStart.Spelling
pub use Rattle.cloud_areas.specs.JournalStart.rooms
pub use Rattle.cloud_areas.specs.JournalStart.start
