-- What cd_edges says, for callers.
pub use Rattle.commit_journal.specs.CdEdges.Disk
pub use Rattle.commit_journal.specs.CdEdges.Shelf
pub use Rattle.commit_journal.specs.CdEdges.area
