-- What cloud_areas says, for callers.
pub use Rattle.cloud_areas.specs.Adding
pub use Rattle.cloud_areas.specs.Chains
pub use Rattle.cloud_areas.specs.Checkpoints
pub use Rattle.cloud_areas.specs.FormatOne
pub use Rattle.cloud_areas.specs.Laid
pub use Rattle.cloud_areas.specs.Peers
pub use Rattle.cloud_areas.specs.Placing
pub use Rattle.cloud_areas.specs.Standing
pub use Rattle.cloud_areas.specs.Summaries
