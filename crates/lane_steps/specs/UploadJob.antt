-- What upload_job says, for callers.
pub use Rattle.upload_job.specs.Lane
pub use Rattle.upload_job.specs.Lanes
pub use Rattle.upload_job.specs.Upload
pub use Rattle.upload_job.specs.declared.news
