-- What record_body has proved, for callers.
pub use Rattle.record_body.proofs.BodyLaws
pub use Rattle.record_body.proofs.FirstSpelled
pub use Rattle.record_body.proofs.Spelled
