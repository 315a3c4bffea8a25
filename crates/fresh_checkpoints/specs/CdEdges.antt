-- What cd_edges says, for callers.
pub use Rattle.cloud_disk.specs.CdEdges.Disk
pub use Rattle.cloud_disk.specs.CdEdges.Shelf
pub use Rattle.cloud_disk.specs.CdEdges.area
