-- What replay_core says, for callers.
pub use Rattle.replay_core.specs.Opening
pub use Rattle.replay_core.specs.Replayed
pub use Rattle.replay_core.specs.declared.end
