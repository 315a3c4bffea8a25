-- What record_body says, for callers.
pub use Rattle.record_checks.specs.RecordBody.Spelling
pub use Rattle.record_checks.specs.RecordBody.body
