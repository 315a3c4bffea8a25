-- What file_recipe says, for callers.
pub use Rattle.rebuild.specs.FileRecipe.FileRecipe
