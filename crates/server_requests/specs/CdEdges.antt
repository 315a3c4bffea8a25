-- What cd_edges says, for callers.
pub use Rattle.server_commands.specs.CdEdges.Causes
pub use Rattle.server_commands.specs.CdEdges.Disk
pub use Rattle.server_commands.specs.CdEdges.Ports
pub use Rattle.server_commands.specs.CdEdges.Shelf
pub use Rattle.server_commands.specs.CdEdges.area
pub use Rattle.server_commands.specs.CdEdges.stream
