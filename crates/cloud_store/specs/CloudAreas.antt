-- What cloud_areas says, for callers.
pub use Rattle.checkpoints.specs.CloudAreas.Peers
pub use Rattle.checkpoints.specs.CloudAreas.Placing
pub use Rattle.checkpoints.specs.CloudAreas.Standing
