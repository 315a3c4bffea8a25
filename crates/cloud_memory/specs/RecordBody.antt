-- What record_body says, for callers.
pub use Rattle.cloud_areas.specs.RecordBody.FirstInPlace
pub use Rattle.cloud_areas.specs.RecordBody.FirstReading
pub use Rattle.cloud_areas.specs.RecordBody.FirstSpelling
pub use Rattle.cloud_areas.specs.RecordBody.InPlace
pub use Rattle.cloud_areas.specs.RecordBody.Reading
pub use Rattle.cloud_areas.specs.RecordBody.Seen
pub use Rattle.cloud_areas.specs.RecordBody.Spelling
pub use Rattle.cloud_areas.specs.RecordBody.body
pub use Rattle.cloud_areas.specs.RecordBody.view
