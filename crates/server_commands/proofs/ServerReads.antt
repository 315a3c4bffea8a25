-- What server_reads has proved, for callers.
pub use Rattle.server_reads.proofs.Calling
pub use Rattle.server_reads.proofs.Logs
pub use Rattle.server_reads.proofs.Plain
pub use Rattle.server_reads.proofs.Rotting
pub use Rattle.server_reads.proofs.Sound
