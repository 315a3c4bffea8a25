-- What cloud_areas says, for callers.
pub use Rattle.cloud_memory.specs.CloudAreas.Chains
pub use Rattle.cloud_memory.specs.CloudAreas.Checkpoints
pub use Rattle.cloud_memory.specs.CloudAreas.Placing
pub use Rattle.cloud_memory.specs.CloudAreas.Standing
