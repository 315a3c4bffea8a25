-- What journal_start says, for callers.
pub use Rattle.checkpoints.specs.JournalStart.Ranges
pub use Rattle.checkpoints.specs.JournalStart.Spelling
pub use Rattle.checkpoints.specs.JournalStart.rooms
pub use Rattle.checkpoints.specs.JournalStart.start
