-- What file_recipe says, for callers.
pub use Rattle.file_recipe.specs.FileRecipe
