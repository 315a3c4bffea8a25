-- What user_dedup says, for callers.
pub use Rattle.subset_restore.specs.UserDedup.Cloud
pub use Rattle.subset_restore.specs.UserDedup.Dedup
pub use Rattle.subset_restore.specs.UserDedup.Exec
pub use Rattle.subset_restore.specs.UserDedup.Link
pub use Rattle.subset_restore.specs.UserDedup.Owning
pub use Rattle.subset_restore.specs.UserDedup.Pages
pub use Rattle.subset_restore.specs.UserDedup.Requests
pub use Rattle.subset_restore.specs.UserDedup.Spending
pub use Rattle.subset_restore.specs.UserDedup.command
pub use Rattle.subset_restore.specs.UserDedup.file_list
pub use Rattle.subset_restore.specs.UserDedup.link
pub use Rattle.subset_restore.specs.UserDedup.view
