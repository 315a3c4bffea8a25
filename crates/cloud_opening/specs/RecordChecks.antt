-- What record_checks says, for callers.
pub use Rattle.record_laws.specs.RecordChecks.Checks
pub use Rattle.record_laws.specs.RecordChecks.ground
pub use Rattle.record_laws.specs.RecordChecks.taking
