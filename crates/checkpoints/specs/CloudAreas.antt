-- What cloud_areas says, for callers.
pub use Rattle.cloud_disk.specs.CloudAreas.Adding
pub use Rattle.cloud_disk.specs.CloudAreas.Chains
pub use Rattle.cloud_disk.specs.CloudAreas.Checkpoints
pub use Rattle.cloud_disk.specs.CloudAreas.FormatOne
pub use Rattle.cloud_disk.specs.CloudAreas.Laid
pub use Rattle.cloud_disk.specs.CloudAreas.Peers
pub use Rattle.cloud_disk.specs.CloudAreas.Placing
pub use Rattle.cloud_disk.specs.CloudAreas.Standing
