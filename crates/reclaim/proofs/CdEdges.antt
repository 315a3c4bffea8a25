-- What cd_edges has proved, for callers.
pub use Rattle.share_server.proofs.CdEdges.Calls
pub use Rattle.share_server.proofs.CdEdges.Moments
