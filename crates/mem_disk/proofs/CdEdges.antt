-- What cd_edges has proved, for callers.
pub use Rattle.cd_edges.proofs.Shrinks
pub use Rattle.cd_edges.proofs.Since
