-- What journal_start has proved, for callers.
pub use Rattle.server_commands.proofs.JournalStart.Lengths
pub use Rattle.server_commands.proofs.JournalStart.Whole
