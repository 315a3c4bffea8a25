-- What user_dedup has proved, for callers.
pub use Rattle.subset_restore.proofs.UserDedup.Asked
pub use Rattle.subset_restore.proofs.UserDedup.Deleting
pub use Rattle.subset_restore.proofs.UserDedup.Owned
pub use Rattle.subset_restore.proofs.UserDedup.Replies
pub use Rattle.subset_restore.proofs.UserDedup.Rows
pub use Rattle.subset_restore.proofs.UserDedup.Sound
pub use Rattle.subset_restore.proofs.UserDedup.Spending
pub use Rattle.subset_restore.proofs.UserDedup.Views
