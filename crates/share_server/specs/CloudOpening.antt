-- What cloud_opening says, for callers.
pub use Rattle.blob_copy.specs.CloudOpening.Exact
pub use Rattle.blob_copy.specs.CloudOpening.Spared
pub use Rattle.blob_copy.specs.CloudOpening.Synced
