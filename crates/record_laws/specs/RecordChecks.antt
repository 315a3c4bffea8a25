-- What record_checks says, for callers.
pub use Rattle.record_checks.specs.Checks
pub use Rattle.record_checks.specs.CloudMemory
pub use Rattle.record_checks.specs.Judging
pub use Rattle.record_checks.specs.Noting
pub use Rattle.record_checks.specs.Steps
pub use Rattle.record_checks.specs.declared.damage
pub use Rattle.record_checks.specs.declared.ground
pub use Rattle.record_checks.specs.declared.taking
