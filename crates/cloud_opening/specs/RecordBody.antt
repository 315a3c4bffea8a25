-- What record_body says, for callers.
pub use Rattle.cloud_disk.specs.RecordBody.Reading
pub use Rattle.cloud_disk.specs.RecordBody.Spelling
pub use Rattle.cloud_disk.specs.RecordBody.body
