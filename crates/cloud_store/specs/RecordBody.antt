-- What record_body says, for callers.
pub use Rattle.checkpoints.specs.RecordBody.Spelling
