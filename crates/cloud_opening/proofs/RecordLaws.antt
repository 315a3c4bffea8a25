-- What record_laws has proved, for callers.
pub use Rattle.record_laws.proofs.Chain
pub use Rattle.record_laws.proofs.Known
pub use Rattle.record_laws.proofs.Next
