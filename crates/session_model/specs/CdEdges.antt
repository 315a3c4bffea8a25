-- What cd_edges says, for callers.
pub use Rattle.session.specs.CdEdges.Causes
pub use Rattle.session.specs.CdEdges.Disk
pub use Rattle.session.specs.CdEdges.Shelf
pub use Rattle.session.specs.CdEdges.area
pub use Rattle.session.specs.CdEdges.stream
