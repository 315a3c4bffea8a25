-- What record_body says, for callers.
pub use Rattle.record_body.specs.FirstInPlace
pub use Rattle.record_body.specs.FirstReading
pub use Rattle.record_body.specs.FirstSpelling
pub use Rattle.record_body.specs.InPlace
pub use Rattle.record_body.specs.Reading
pub use Rattle.record_body.specs.Seen
pub use Rattle.record_body.specs.Spelling
pub use Rattle.record_body.specs.declared.body
pub use Rattle.record_body.specs.declared.view
