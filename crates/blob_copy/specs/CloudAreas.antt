-- What cloud_areas says, for callers.
pub use Rattle.fresh_checkpoints.specs.CloudAreas.Peers
pub use Rattle.fresh_checkpoints.specs.CloudAreas.Standing
