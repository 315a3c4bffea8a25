-- What cd_edges has proved, for callers.
pub use Rattle.server_commands.proofs.CdEdges.Calls
pub use Rattle.server_commands.proofs.CdEdges.Moments
pub use Rattle.server_commands.proofs.CdEdges.Torn
