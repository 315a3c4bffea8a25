-- What script_lines says, for callers.
pub use Rattle.script_lines.specs.At
pub use Rattle.script_lines.specs.Does
pub use Rattle.script_lines.specs.Finishing
pub use Rattle.script_lines.specs.Jobs
pub use Rattle.script_lines.specs.Stepping
