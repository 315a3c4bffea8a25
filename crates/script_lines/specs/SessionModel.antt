-- What session_model says, for callers.
pub use Rattle.session_model.specs.Faults
pub use Rattle.session_model.specs.Headline
pub use Rattle.session_model.specs.Kept
pub use Rattle.session_model.specs.Run
pub use Rattle.session_model.specs.Steps
pub use Rattle.session_model.specs.Vault
