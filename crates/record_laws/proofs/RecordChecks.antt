-- What record_checks has proved, for callers.
pub use Rattle.record_checks.proofs.FittingItems
pub use Rattle.record_checks.proofs.KeptWalking
pub use Rattle.record_checks.proofs.MemoryProofs
pub use Rattle.record_checks.proofs.OneAnswer
pub use Rattle.record_checks.proofs.Rooming
