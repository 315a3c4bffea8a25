-- What cloud_areas says, for callers.
pub use Rattle.cloud_disk.specs.CloudAreas.Standing
