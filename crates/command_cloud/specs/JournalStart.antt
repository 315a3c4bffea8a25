-- What journal_start says, for callers.
pub use Rattle.cloud_opening.specs.JournalStart.rooms
pub use Rattle.cloud_opening.specs.JournalStart.start
