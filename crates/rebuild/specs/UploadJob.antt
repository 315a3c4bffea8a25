-- What upload_job says, for callers.
pub use Rattle.lane_steps.specs.UploadJob.Lane
pub use Rattle.lane_steps.specs.UploadJob.Lanes
pub use Rattle.lane_steps.specs.UploadJob.Upload
pub use Rattle.lane_steps.specs.UploadJob.news
