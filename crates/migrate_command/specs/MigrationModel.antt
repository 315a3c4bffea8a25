-- What migration_model says, for callers.
pub use Rattle.store_migration.specs.MigrationModel.Migrating
