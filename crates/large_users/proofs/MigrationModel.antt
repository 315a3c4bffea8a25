-- What migration_model has proved, for callers.
pub use Rattle.migration_model.proofs.Large
