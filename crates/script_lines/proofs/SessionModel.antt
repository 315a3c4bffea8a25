-- What session_model has proved, for callers.
pub use Rattle.session_model.proofs.Armings
pub use Rattle.session_model.proofs.Counts
pub use Rattle.session_model.proofs.Faults
