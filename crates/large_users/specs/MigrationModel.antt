-- What migration_model says, for callers.
pub use Rattle.migration_model.specs.Migrating
