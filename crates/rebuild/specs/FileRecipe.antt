-- What file_recipe says, for callers.
pub use Rattle.lane_steps.specs.FileRecipe.FileRecipe
