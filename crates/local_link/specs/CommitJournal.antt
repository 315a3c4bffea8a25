-- What commit_journal says, for callers.
pub use Rattle.share_server.specs.CommitJournal.Openings
pub use Rattle.share_server.specs.CommitJournal.errors
