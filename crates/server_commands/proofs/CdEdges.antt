-- What cd_edges has proved, for callers.
pub use Rattle.server_reads.proofs.CdEdges.Calls
pub use Rattle.server_reads.proofs.CdEdges.Moments
pub use Rattle.server_reads.proofs.CdEdges.Torn
