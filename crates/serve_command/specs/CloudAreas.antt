-- What cloud_areas says, for callers.
pub use Rattle.cloud_server.specs.CloudAreas.Peers
