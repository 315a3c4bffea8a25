-- What server_reads has proved, for callers.
pub use Rattle.server_commands.proofs.ServerReads.Calling
pub use Rattle.server_commands.proofs.ServerReads.Sound
