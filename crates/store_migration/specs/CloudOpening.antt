-- What cloud_opening says, for callers.
pub use Rattle.cloud_opening.specs.Synced
