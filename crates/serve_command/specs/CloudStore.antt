-- What cloud_store says, for callers.
pub use Rattle.share_server.specs.CloudStore.Store
