-- What cd_edges has proved, for callers.
pub use Rattle.server_requests.proofs.CdEdges.Calls
pub use Rattle.server_requests.proofs.CdEdges.Moments
pub use Rattle.server_requests.proofs.CdEdges.Torn
