-- What kept_files says, for callers.
pub use Rattle.rebuild.specs.KeptFiles.Kept
