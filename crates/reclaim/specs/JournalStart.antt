-- What journal_start says, for callers.
pub use Rattle.cloud_server.specs.JournalStart.rooms
pub use Rattle.cloud_server.specs.JournalStart.start
