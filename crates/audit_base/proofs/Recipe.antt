-- What recipe has proved, for callers.
pub use Rattle.cloud_memory.proofs.Recipe.Written
