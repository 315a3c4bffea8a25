-- What journal_start says, for callers.
pub use Rattle.server_commands.specs.JournalStart.Ranges
pub use Rattle.server_commands.specs.JournalStart.Spelling
pub use Rattle.server_commands.specs.JournalStart.rooms
pub use Rattle.server_commands.specs.JournalStart.start
