-- What cloud_opening has proved, for callers.
pub use Rattle.share_server.proofs.CloudOpening.OneStart
