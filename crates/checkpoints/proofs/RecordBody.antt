-- What record_body has proved, for callers.
pub use Rattle.cloud_memory.proofs.RecordBody.FirstSpelled
pub use Rattle.cloud_memory.proofs.RecordBody.Spelled
