-- What kept_files says, for callers.
pub use Rattle.kept_files.specs.Kept
