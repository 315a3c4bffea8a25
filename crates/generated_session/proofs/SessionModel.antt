-- What session_model has proved, for callers.
pub use Rattle.replay_core.proofs.SessionModel.Counts
