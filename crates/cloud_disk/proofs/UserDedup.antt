-- What user_dedup has proved, for callers.
pub use Rattle.cloud_areas.proofs.UserDedup.CompactSound
pub use Rattle.cloud_areas.proofs.UserDedup.Compacting
pub use Rattle.cloud_areas.proofs.UserDedup.Filtered
pub use Rattle.cloud_areas.proofs.UserDedup.Owned
