-- What record_body says, for callers.
pub use Rattle.cloud_memory.specs.RecordBody.FirstReading
pub use Rattle.cloud_memory.specs.RecordBody.FirstSpelling
pub use Rattle.cloud_memory.specs.RecordBody.Reading
pub use Rattle.cloud_memory.specs.RecordBody.Seen
pub use Rattle.cloud_memory.specs.RecordBody.Spelling
pub use Rattle.cloud_memory.specs.RecordBody.body
pub use Rattle.cloud_memory.specs.RecordBody.view
