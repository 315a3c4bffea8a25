-- What user_dedup has proved, for callers.
pub use Rattle.user_dedup.proofs.Owned
