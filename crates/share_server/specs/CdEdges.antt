-- What cd_edges says, for callers.
pub use Rattle.server_requests.specs.CdEdges.Causes
pub use Rattle.server_requests.specs.CdEdges.Disk
pub use Rattle.server_requests.specs.CdEdges.Ports
pub use Rattle.server_requests.specs.CdEdges.Shelf
pub use Rattle.server_requests.specs.CdEdges.area
pub use Rattle.server_requests.specs.CdEdges.stream
