-- What recipe says, for callers.
pub use Rattle.user_dedup.specs.Recipe.Reading
pub use Rattle.user_dedup.specs.Recipe.Spelling
pub use Rattle.user_dedup.specs.Recipe.items
pub use Rattle.user_dedup.specs.Recipe.recipe
