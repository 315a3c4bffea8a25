-- What session_model has proved, for callers.
pub use Rattle.script_lines.proofs.SessionModel.Counts
