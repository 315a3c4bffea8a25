-- What checkpoints has proved, for callers.
pub use Rattle.checkpoints.proofs.Apartness
