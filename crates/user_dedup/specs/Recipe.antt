-- What recipe says, for callers.
pub use Rattle.recipe.specs.Reading
pub use Rattle.recipe.specs.Spelling
pub use Rattle.recipe.specs.declared.items
pub use Rattle.recipe.specs.declared.recipe
