-- What cd_edges says, for callers.
pub use Rattle.backup_command.specs.CdEdges.Causes
pub use Rattle.backup_command.specs.CdEdges.Disk
pub use Rattle.backup_command.specs.CdEdges.Shelf
