-- What transcript has proved, for callers.
pub use Rattle.backup_command.proofs.Transcript.Joined
