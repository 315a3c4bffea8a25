-- What first_records says, for callers.
pub use Rattle.first_records.specs.Judging
pub use Rattle.first_records.specs.Limits
pub use Rattle.first_records.specs.declared.errors
