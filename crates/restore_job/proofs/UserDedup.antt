-- What user_dedup has proved, for callers.
pub use Rattle.user_dedup.proofs.Asked
pub use Rattle.user_dedup.proofs.Deleting
pub use Rattle.user_dedup.proofs.Growing
pub use Rattle.user_dedup.proofs.Owned
pub use Rattle.user_dedup.proofs.Replies
pub use Rattle.user_dedup.proofs.Rows
pub use Rattle.user_dedup.proofs.Served
pub use Rattle.user_dedup.proofs.Sound
pub use Rattle.user_dedup.proofs.Spending
pub use Rattle.user_dedup.proofs.Views
pub use Rattle.user_dedup.proofs.Within
