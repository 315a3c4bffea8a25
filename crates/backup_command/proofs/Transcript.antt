-- What transcript has proved, for callers.
pub use Rattle.transcript.proofs.Joined
