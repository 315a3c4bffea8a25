-- What cloud_areas says, for callers.
pub use Rattle.cloud_areas.specs.Chains
pub use Rattle.cloud_areas.specs.Checkpoints
pub use Rattle.cloud_areas.specs.Placing
pub use Rattle.cloud_areas.specs.Standing
