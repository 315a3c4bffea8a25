-- What user_dedup has proved, for callers.
pub use Rattle.cloud_memory.proofs.UserDedup.Owned
