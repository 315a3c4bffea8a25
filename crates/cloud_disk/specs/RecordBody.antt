-- What record_body says, for callers.
pub use Rattle.cloud_areas.specs.RecordBody.FirstSpelling
pub use Rattle.cloud_areas.specs.RecordBody.Reading
pub use Rattle.cloud_areas.specs.RecordBody.Spelling
pub use Rattle.cloud_areas.specs.RecordBody.body
