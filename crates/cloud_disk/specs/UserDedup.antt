-- What user_dedup says, for callers.
pub use Rattle.cloud_areas.specs.UserDedup.Cloud
pub use Rattle.cloud_areas.specs.UserDedup.Compact
pub use Rattle.cloud_areas.specs.UserDedup.Dedup
pub use Rattle.cloud_areas.specs.UserDedup.Pages
pub use Rattle.cloud_areas.specs.UserDedup.Requests
pub use Rattle.cloud_areas.specs.UserDedup.Spending
pub use Rattle.cloud_areas.specs.UserDedup.command
pub use Rattle.cloud_areas.specs.UserDedup.file_list
