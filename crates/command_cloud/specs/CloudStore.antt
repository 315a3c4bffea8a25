-- What cloud_store says, for callers.
pub use Rattle.serve_command.specs.CloudStore.Store
