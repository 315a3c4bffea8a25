-- What recipe says, for callers.
pub use Rattle.upload_job.specs.Recipe.Spelling
