-- What recipe says, for callers.
pub use Rattle.restore_job.specs.Recipe.Reading
pub use Rattle.restore_job.specs.Recipe.items
pub use Rattle.restore_job.specs.Recipe.recipe
