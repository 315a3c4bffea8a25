-- What restore_job has proved, for callers.
pub use Rattle.restore_job.proofs.Bringing
pub use Rattle.restore_job.proofs.Faulting
pub use Rattle.restore_job.proofs.Held
pub use Rattle.restore_job.proofs.Leading
pub use Rattle.restore_job.proofs.Speaking
pub use Rattle.restore_job.proofs.Wrong
