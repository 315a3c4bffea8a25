-- What session_model says, for callers.
pub use Rattle.script_lines.specs.SessionModel.Headline
pub use Rattle.script_lines.specs.SessionModel.Kept
pub use Rattle.script_lines.specs.SessionModel.Run
pub use Rattle.script_lines.specs.SessionModel.Steps
pub use Rattle.script_lines.specs.SessionModel.Vault
