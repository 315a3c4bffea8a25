-- What user_dedup has proved, for callers.
pub use Rattle.compact_lists.proofs.UserDedup.Served
