-- What cloud_store has proved, for callers.
pub use Rattle.cloud_store.proofs.Keeping
