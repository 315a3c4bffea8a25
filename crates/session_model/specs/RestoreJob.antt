-- What restore_job says, for callers.
pub use Rattle.subset_restore.specs.RestoreJob.Asking
pub use Rattle.subset_restore.specs.RestoreJob.Reading
pub use Rattle.subset_restore.specs.RestoreJob.Refusals
pub use Rattle.subset_restore.specs.RestoreJob.Restored
pub use Rattle.subset_restore.specs.RestoreJob.error
