-- What cd_edges has proved, for callers.
pub use Rattle.journal_halves.proofs.CdEdges.Calls
pub use Rattle.journal_halves.proofs.CdEdges.Moments
pub use Rattle.journal_halves.proofs.CdEdges.Overwritten
pub use Rattle.journal_halves.proofs.CdEdges.Shrinks
pub use Rattle.journal_halves.proofs.CdEdges.Since
pub use Rattle.journal_halves.proofs.CdEdges.Torn
