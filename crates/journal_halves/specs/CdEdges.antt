-- What cd_edges says, for callers.
pub use Rattle.cd_edges.specs.Causes
pub use Rattle.cd_edges.specs.Disk
pub use Rattle.cd_edges.specs.Ports
pub use Rattle.cd_edges.specs.Shelf
pub use Rattle.cd_edges.specs.declared.area
