-- What cloud_opening says, for callers.
pub use Rattle.cloud_store.specs.CloudOpening.CloudMemory
pub use Rattle.cloud_store.specs.CloudOpening.Exact
pub use Rattle.cloud_store.specs.CloudOpening.RecordChecks
pub use Rattle.cloud_store.specs.CloudOpening.RecordLaws
pub use Rattle.cloud_store.specs.CloudOpening.Spared
pub use Rattle.cloud_store.specs.CloudOpening.Steps
pub use Rattle.cloud_store.specs.CloudOpening.Synced
