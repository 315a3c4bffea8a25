-- What cloud_areas says, for callers.
pub use Rattle.blob_copy.specs.CloudAreas.Peers
pub use Rattle.blob_copy.specs.CloudAreas.Standing
