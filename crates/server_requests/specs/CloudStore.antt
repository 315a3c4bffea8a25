-- What cloud_store says, for callers.
pub use Rattle.server_commands.specs.CloudStore.Store
pub use Rattle.server_commands.specs.CloudStore.store
