-- What cloud_opening says, for callers.
pub use Rattle.share_server.specs.CloudOpening.Exact
pub use Rattle.share_server.specs.CloudOpening.Spared
pub use Rattle.share_server.specs.CloudOpening.Synced
