-- What user_dedup has proved, for callers.
pub use Rattle.restore_job.proofs.UserDedup.Asked
pub use Rattle.restore_job.proofs.UserDedup.Deleting
pub use Rattle.restore_job.proofs.UserDedup.Growing
pub use Rattle.restore_job.proofs.UserDedup.Owned
pub use Rattle.restore_job.proofs.UserDedup.Replies
pub use Rattle.restore_job.proofs.UserDedup.Rows
pub use Rattle.restore_job.proofs.UserDedup.Served
pub use Rattle.restore_job.proofs.UserDedup.Sound
pub use Rattle.restore_job.proofs.UserDedup.Spending
pub use Rattle.restore_job.proofs.UserDedup.Views
pub use Rattle.restore_job.proofs.UserDedup.Within
