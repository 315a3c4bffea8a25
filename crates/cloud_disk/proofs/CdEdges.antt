-- What cd_edges has proved, for callers.
pub use Rattle.commit_journal.proofs.CdEdges.Calls
pub use Rattle.commit_journal.proofs.CdEdges.Moments
pub use Rattle.commit_journal.proofs.CdEdges.Overwritten
pub use Rattle.commit_journal.proofs.CdEdges.Shrinks
pub use Rattle.commit_journal.proofs.CdEdges.Since
pub use Rattle.commit_journal.proofs.CdEdges.Torn
