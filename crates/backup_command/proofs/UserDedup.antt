-- What user_dedup has proved, for callers.
pub use Rattle.ports_link.proofs.UserDedup.Owned
