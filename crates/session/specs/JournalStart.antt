-- What journal_start says, for callers.
pub use Rattle.journal_start.specs.Ranges
pub use Rattle.journal_start.specs.declared.rooms
pub use Rattle.journal_start.specs.declared.start
