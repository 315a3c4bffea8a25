-- What journal_halves says, for callers.
pub use Rattle.blob_copy.specs.JournalHalves.Beginnings
pub use Rattle.blob_copy.specs.JournalHalves.Findings
pub use Rattle.blob_copy.specs.JournalHalves.Halves
pub use Rattle.server_requests.specs.ServerCommands.JournalHalves.Journals
