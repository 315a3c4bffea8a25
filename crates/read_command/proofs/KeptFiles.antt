-- What kept_files has proved, for callers.
pub use Rattle.kept_files.proofs.Giving
