-- What caont_rs says, for callers.
pub use Rattle.file_recipe.specs.CaontRs.Opening
pub use Rattle.file_recipe.specs.CaontRs.Package
pub use Rattle.file_recipe.specs.CaontRs.opening
