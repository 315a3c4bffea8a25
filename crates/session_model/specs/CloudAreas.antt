-- What cloud_areas says, for callers.
pub use Rattle.local_link.specs.CloudAreas.Peers
