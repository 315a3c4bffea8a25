-- What reed_solomon says, for callers.
pub use Rattle.file_recipe.specs.ReedSolomon.Dispersal
pub use Rattle.file_recipe.specs.ReedSolomon.Interpolation
