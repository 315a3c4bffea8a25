-- What cloud_opening says, for callers.
pub use Rattle.cloud_opening.specs.CloudMemory
pub use Rattle.cloud_opening.specs.Exact
pub use Rattle.cloud_opening.specs.RecordChecks
pub use Rattle.cloud_opening.specs.RecordLaws
pub use Rattle.cloud_opening.specs.Roomy
pub use Rattle.cloud_opening.specs.Spared
pub use Rattle.cloud_opening.specs.Steps
pub use Rattle.cloud_opening.specs.Synced
