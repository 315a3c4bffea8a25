-- What record_body has proved, for callers.
pub use Rattle.record_checks.proofs.RecordBody.BodyLaws
