-- What script_lines has proved, for callers.
pub use Rattle.script_lines.proofs.Bringing
pub use Rattle.script_lines.proofs.Going
pub use Rattle.script_lines.proofs.Lines
pub use Rattle.script_lines.proofs.Others
pub use Rattle.script_lines.proofs.Reaching
pub use Rattle.script_lines.proofs.Walking
