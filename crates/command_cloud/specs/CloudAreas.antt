-- What cloud_areas says, for callers.
pub use Rattle.cloud_opening.specs.CloudAreas.Standing
