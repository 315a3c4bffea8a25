-- What cd_edges says, for callers.
pub use Rattle.server_reads.specs.CdEdges.Causes
pub use Rattle.server_reads.specs.CdEdges.Disk
pub use Rattle.server_reads.specs.CdEdges.Ports
pub use Rattle.server_reads.specs.CdEdges.Shelf
pub use Rattle.server_reads.specs.CdEdges.area
pub use Rattle.server_reads.specs.CdEdges.stream
