-- What user_dedup says, for callers.
pub use Rattle.cloud_disk.specs.UserDedup.Cloud
pub use Rattle.cloud_disk.specs.UserDedup.Compact
pub use Rattle.cloud_disk.specs.UserDedup.Dedup
pub use Rattle.cloud_disk.specs.UserDedup.Pages
pub use Rattle.cloud_disk.specs.UserDedup.Spending
pub use Rattle.cloud_disk.specs.UserDedup.command
pub use Rattle.cloud_disk.specs.UserDedup.file_list
