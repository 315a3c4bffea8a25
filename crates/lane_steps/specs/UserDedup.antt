-- What user_dedup says, for callers.
pub use Rattle.upload_job.specs.UserDedup.Cloud
pub use Rattle.upload_job.specs.UserDedup.Dedup
pub use Rattle.upload_job.specs.UserDedup.Exec
pub use Rattle.upload_job.specs.UserDedup.Link
pub use Rattle.upload_job.specs.UserDedup.Owning
pub use Rattle.upload_job.specs.UserDedup.Pages
pub use Rattle.upload_job.specs.UserDedup.Requests
pub use Rattle.upload_job.specs.UserDedup.Spending
pub use Rattle.upload_job.specs.UserDedup.command
pub use Rattle.upload_job.specs.UserDedup.file_list
pub use Rattle.upload_job.specs.UserDedup.view
