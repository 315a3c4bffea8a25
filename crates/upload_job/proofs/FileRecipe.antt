-- What file_recipe has proved, for callers.
pub use Rattle.file_recipe.proofs.Recipes
pub use Rattle.file_recipe.proofs.Secrets
