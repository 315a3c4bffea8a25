-- What cloud_store says, for callers.
pub use Rattle.server_requests.specs.CloudStore.Store
pub use Rattle.server_requests.specs.CloudStore.store
