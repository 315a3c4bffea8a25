-- What blob_audit says of areas, for callers.
pub use Rattle.blob_audit.specs.Reading
