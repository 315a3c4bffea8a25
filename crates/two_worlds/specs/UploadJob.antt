-- What upload_job says, for callers.
pub use Rattle.session_model.specs.UploadJob.Lanes
