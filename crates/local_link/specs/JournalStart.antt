-- What journal_start says, for callers.
pub use Rattle.cloud_server.specs.JournalStart.Ranges
