-- What cloud_areas says, for callers.
pub use Rattle.share_server.specs.CloudAreas.Peers
pub use Rattle.share_server.specs.CloudAreas.Standing
