-- What user_dedup has proved, for callers.
pub use Rattle.compact_lists.proofs.UserDedup.CompactSound
pub use Rattle.compact_lists.proofs.UserDedup.Compacting
pub use Rattle.compact_lists.proofs.UserDedup.Filtered
pub use Rattle.compact_lists.proofs.UserDedup.New
pub use Rattle.compact_lists.proofs.UserDedup.Once
pub use Rattle.compact_lists.proofs.UserDedup.Owned
pub use Rattle.compact_lists.proofs.UserDedup.Sorting
pub use Rattle.compact_lists.proofs.UserDedup.Sound
pub use Rattle.compact_lists.proofs.UserDedup.Views
pub use Rattle.checkpoints.proofs.UserDedup.Within
