-- What migration_model says, for callers.
pub use Rattle.large_users.specs.MigrationModel.Migrating
