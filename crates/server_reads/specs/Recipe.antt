-- What recipe says, for callers.
pub use Rattle.cloud_memory.specs.Recipe.Reading
pub use Rattle.cloud_memory.specs.Recipe.Spelling
pub use Rattle.cloud_memory.specs.Recipe.items
pub use Rattle.cloud_memory.specs.Recipe.recipe
