-- What user_dedup has proved, for callers.
pub use Rattle.user_dedup.proofs.CompactSound
pub use Rattle.user_dedup.proofs.Compacting
pub use Rattle.user_dedup.proofs.EntryLists
pub use Rattle.user_dedup.proofs.Filtered
pub use Rattle.user_dedup.proofs.New
pub use Rattle.user_dedup.proofs.Once
pub use Rattle.user_dedup.proofs.Owned
pub use Rattle.user_dedup.proofs.Served
pub use Rattle.user_dedup.proofs.Sorting
pub use Rattle.user_dedup.proofs.Sound
pub use Rattle.user_dedup.proofs.Views
pub use Rattle.user_dedup.proofs.Within
