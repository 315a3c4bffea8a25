-- What user_dedup has proved, for callers.
pub use Rattle.cloud_memory.proofs.UserDedup.Asked
pub use Rattle.cloud_memory.proofs.UserDedup.CompactSound
pub use Rattle.cloud_memory.proofs.UserDedup.EntryLists
pub use Rattle.cloud_memory.proofs.UserDedup.Execs
pub use Rattle.cloud_memory.proofs.UserDedup.New
pub use Rattle.cloud_memory.proofs.UserDedup.Owned
pub use Rattle.cloud_memory.proofs.UserDedup.Sound
pub use Rattle.cloud_memory.proofs.UserDedup.Spending
pub use Rattle.cloud_memory.proofs.UserDedup.Suiting
pub use Rattle.cloud_memory.proofs.UserDedup.Views
pub use Rattle.cloud_memory.proofs.UserDedup.Within
