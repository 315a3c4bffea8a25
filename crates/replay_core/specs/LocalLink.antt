-- What local_link says, for callers.
pub use Rattle.script_lines.specs.LocalLink.Calls
pub use Rattle.script_lines.specs.LocalLink.Steps
pub use Rattle.script_lines.specs.LocalLink.Tells
pub use Rattle.script_lines.specs.LocalLink.link
