-- What user_dedup has proved, for callers.
pub use Rattle.upload_job.proofs.UserDedup.Asked
pub use Rattle.upload_job.proofs.UserDedup.Growing
pub use Rattle.upload_job.proofs.UserDedup.Owned
pub use Rattle.upload_job.proofs.UserDedup.Pages
pub use Rattle.upload_job.proofs.UserDedup.Sound
pub use Rattle.upload_job.proofs.UserDedup.Views
