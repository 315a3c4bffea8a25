-- What file_recipe has proved, for callers.
pub use Rattle.upload_job.proofs.FileRecipe.Recipes
