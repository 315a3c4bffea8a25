-- What cd_edges says, for callers.
pub use Rattle.ports_link.specs.CdEdges.Causes
pub use Rattle.ports_link.specs.CdEdges.Disk
pub use Rattle.ports_link.specs.CdEdges.Ports
pub use Rattle.ports_link.specs.CdEdges.Shelf
pub use Rattle.ports_link.specs.CdEdges.area
