-- What caont_rs has proved, for callers.
pub use Rattle.file_recipe.proofs.CaontRs.Opened
pub use Rattle.file_recipe.proofs.CaontRs.Openings
