-- What file_recipe says, for callers.
pub use Rattle.upload_job.specs.FileRecipe.FileRecipe
