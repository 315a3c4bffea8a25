-- What cloud_store has proved, for callers.
pub use Rattle.server_commands.proofs.OfCloudStore.Keeping
