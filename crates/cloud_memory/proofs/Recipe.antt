-- What recipe has proved, for callers.
pub use Rattle.recipe.proofs.Written
