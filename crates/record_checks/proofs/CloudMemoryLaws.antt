-- What cloud_memory has proved, for callers.
pub use Rattle.cloud_memory.proofs.Fitting
pub use Rattle.cloud_memory.proofs.Puts
