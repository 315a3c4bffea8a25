-- What recipe says, for callers.
pub use Rattle.upload_job.specs.Recipe.Reading
pub use Rattle.upload_job.specs.Recipe.Spelling
pub use Rattle.upload_job.specs.Recipe.items
pub use Rattle.upload_job.specs.Recipe.recipe
