-- What cd_edges says, for callers.
pub use Rattle.share_server.specs.CdEdges.Disk
pub use Rattle.share_server.specs.CdEdges.Shelf
