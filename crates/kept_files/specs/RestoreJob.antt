-- What restore_job says, for callers.
pub use Rattle.restore_job.specs.Asking
pub use Rattle.restore_job.specs.Brought
pub use Rattle.restore_job.specs.Reading
pub use Rattle.restore_job.specs.Refusals
pub use Rattle.restore_job.specs.Restored
pub use Rattle.restore_job.specs.Steps
pub use Rattle.restore_job.specs.declared.error
