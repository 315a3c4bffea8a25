-- What cd_edges has proved, for callers.
pub use Rattle.cloud_disk.proofs.CdEdges.Calls
pub use Rattle.cloud_disk.proofs.CdEdges.Moments
