-- What cd_edges has proved, for callers.
pub use Rattle.backup_command.proofs.CdEdges.Calls
