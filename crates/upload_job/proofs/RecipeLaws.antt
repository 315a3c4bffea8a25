-- What recipe has proved, for callers.
pub use Rattle.user_dedup.proofs.RecipeLaws.Written
