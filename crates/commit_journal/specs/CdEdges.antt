-- What cd_edges says, for callers.
pub use Rattle.journal_halves.specs.CdEdges.Causes
pub use Rattle.journal_halves.specs.CdEdges.Disk
pub use Rattle.journal_halves.specs.CdEdges.Ports
pub use Rattle.journal_halves.specs.CdEdges.Shelf
pub use Rattle.journal_halves.specs.CdEdges.area
