-- What cloud_areas says, for callers.
pub use Rattle.checkpoints.specs.CloudAreas.Chains
pub use Rattle.checkpoints.specs.CloudAreas.Checkpoints
pub use Rattle.checkpoints.specs.CloudAreas.FormatOne
pub use Rattle.checkpoints.specs.CloudAreas.Laid
pub use Rattle.checkpoints.specs.CloudAreas.Placing
pub use Rattle.checkpoints.specs.CloudAreas.Standing
