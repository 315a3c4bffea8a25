-- What cloud_store says, for callers.
pub use Rattle.cloud_store.specs.Adding
pub use Rattle.cloud_store.specs.Store
pub use Rattle.cloud_store.specs.declared.store
