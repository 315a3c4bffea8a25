-- What journal_start says, for callers.
pub use Rattle.cloud_opening.specs.JournalStart.Ranges
pub use Rattle.cloud_opening.specs.JournalStart.rooms
