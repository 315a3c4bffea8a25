-- What user_dedup has proved, for callers.
pub use Rattle.cloud_disk.proofs.UserDedup.CompactSound
pub use Rattle.cloud_disk.proofs.UserDedup.Compacting
