-- What upload_job has proved, for callers.
pub use Rattle.upload_job.proofs.Batches
pub use Rattle.upload_job.proofs.Laning
pub use Rattle.upload_job.proofs.Naming
