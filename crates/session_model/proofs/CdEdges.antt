-- What cd_edges has proved, for callers.
pub use Rattle.session.proofs.CdEdges.Moments
