-- What cd_edges says, for callers.
pub use Rattle.transcript.specs.CdEdges.Causes
pub use Rattle.transcript.specs.CdEdges.Disk
pub use Rattle.transcript.specs.CdEdges.Ports
pub use Rattle.transcript.specs.CdEdges.Shelf
pub use Rattle.transcript.specs.CdEdges.area
