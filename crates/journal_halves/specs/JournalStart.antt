-- What journal_start says, for callers.
pub use Rattle.journal_start.specs.Ranges
pub use Rattle.journal_start.specs.Reading
pub use Rattle.journal_start.specs.Spelling
pub use Rattle.journal_start.specs.declared.fault
pub use Rattle.journal_start.specs.declared.rooms
pub use Rattle.journal_start.specs.declared.start
