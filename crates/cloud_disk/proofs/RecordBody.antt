-- What record_body has proved, for callers.
pub use Rattle.cloud_areas.proofs.RecordBody.BodyLaws
