-- What session_model says, for callers.
pub use Rattle.replay_core.specs.SessionModel.Headline
pub use Rattle.replay_core.specs.SessionModel.Kept
pub use Rattle.replay_core.specs.SessionModel.Run
pub use Rattle.replay_core.specs.SessionModel.Steps
pub use Rattle.replay_core.specs.SessionModel.Vault
