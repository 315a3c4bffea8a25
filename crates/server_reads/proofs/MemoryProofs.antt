-- What cloud_memory has proved, for callers.
pub use Rattle.cloud_memory.proofs.Adding
pub use Rattle.cloud_memory.proofs.Puts
