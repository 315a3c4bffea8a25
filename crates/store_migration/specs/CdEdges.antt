-- What cd_edges says, for callers.
pub use Rattle.fresh_checkpoints.specs.CdEdges.Disk
pub use Rattle.fresh_checkpoints.specs.CdEdges.Shelf
