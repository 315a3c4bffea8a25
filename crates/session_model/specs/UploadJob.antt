-- What upload_job says, for callers.
pub use Rattle.rebuild.specs.UploadJob.Lane
pub use Rattle.rebuild.specs.UploadJob.Lanes
pub use Rattle.rebuild.specs.UploadJob.Upload
pub use Rattle.rebuild.specs.UploadJob.news
