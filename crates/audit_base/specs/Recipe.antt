-- What recipe says, for callers.
pub use Rattle.cloud_memory.specs.Recipe.Spelling
pub use Rattle.cloud_memory.specs.Recipe.recipe
