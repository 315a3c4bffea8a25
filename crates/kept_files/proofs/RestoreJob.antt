-- What restore_job has proved, for callers.
pub use Rattle.restore_job.proofs.Asks
pub use Rattle.restore_job.proofs.Batches
pub use Rattle.restore_job.proofs.Bringing
pub use Rattle.restore_job.proofs.Causing
pub use Rattle.restore_job.proofs.Ending
pub use Rattle.restore_job.proofs.Held
pub use Rattle.restore_job.proofs.Leading
