-- What journal_start says, for callers.
pub use Rattle.share_server.specs.JournalStart.Ranges
pub use Rattle.share_server.specs.JournalStart.rooms
