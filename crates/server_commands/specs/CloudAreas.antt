-- What cloud_areas says, for callers.
pub use Rattle.cloud_store.specs.CloudAreas.Standing
