-- What recipe has proved, for callers.
pub use Rattle.server_reads.proofs.RecipeLaws.Written
