-- What journal_start says, for callers.
pub use Rattle.server_requests.specs.JournalStart.Ranges
pub use Rattle.server_requests.specs.JournalStart.rooms
pub use Rattle.server_requests.specs.JournalStart.start
