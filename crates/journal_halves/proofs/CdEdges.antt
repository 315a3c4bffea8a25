-- What cd_edges has proved, for callers.
pub use Rattle.cd_edges.proofs.Calls
pub use Rattle.cd_edges.proofs.Moments
pub use Rattle.cd_edges.proofs.Overwritten
pub use Rattle.cd_edges.proofs.Runs
pub use Rattle.cd_edges.proofs.Shrinks
pub use Rattle.cd_edges.proofs.Since
pub use Rattle.cd_edges.proofs.Torn
