-- What record_body says, for callers.
pub use Rattle.cloud_memory.specs.RecordBody.FirstSpelling
pub use Rattle.cloud_memory.specs.RecordBody.Spelling
pub use Rattle.cloud_memory.specs.RecordBody.body
