-- What commit_journal says, for callers.
pub use Rattle.server_commands.specs.CommitJournal.Leaving
pub use Rattle.server_commands.specs.CommitJournal.Openings
pub use Rattle.server_commands.specs.CommitJournal.Outcomes
pub use Rattle.server_commands.specs.CommitJournal.States
pub use Rattle.server_commands.specs.CommitJournal.errors
pub use Rattle.server_commands.specs.CommitJournal.journal
