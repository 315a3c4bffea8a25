-- What user_dedup has proved, for callers.
pub use Rattle.cloud_memory.proofs.UserDedup.CompactSound
pub use Rattle.cloud_memory.proofs.UserDedup.Filtered
pub use Rattle.cloud_memory.proofs.UserDedup.Owned
pub use Rattle.cloud_memory.proofs.UserDedup.Pages
pub use Rattle.cloud_memory.proofs.UserDedup.Sound
pub use Rattle.cloud_memory.proofs.UserDedup.Spending
pub use Rattle.cloud_memory.proofs.UserDedup.Within
