-- What cd_edges has proved, for callers.
pub use Rattle.ports_link.proofs.CdEdges.Moments
