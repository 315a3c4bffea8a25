-- What cd_edges has proved, for callers.
pub use Rattle.transcript.proofs.CdEdges.Moments
