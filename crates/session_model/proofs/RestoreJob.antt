-- What restore_job has proved, for callers.
pub use Rattle.subset_restore.proofs.RestoreJob.Held
pub use Rattle.subset_restore.proofs.RestoreJob.Leading
