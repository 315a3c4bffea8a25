-- What transcript has proved, for callers.
pub use Rattle.transcript.proofs.Joined
pub use Rattle.transcript.proofs.Shapes
