-- What commit_journal says, for callers.
pub use Rattle.server_requests.specs.CommitJournal.Openings
pub use Rattle.server_requests.specs.CommitJournal.States
pub use Rattle.server_requests.specs.CommitJournal.errors
