-- What script_lines says, for callers.
pub use Rattle.replay_core.specs.ScriptLines.Jobs
