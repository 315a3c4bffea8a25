-- What user_dedup says, for callers.
pub use Rattle.cloud_memory.specs.UserDedup.Cloud
pub use Rattle.cloud_memory.specs.UserDedup.Dedup
pub use Rattle.cloud_memory.specs.UserDedup.Owning
pub use Rattle.cloud_memory.specs.UserDedup.Pages
pub use Rattle.cloud_memory.specs.UserDedup.Requests
pub use Rattle.cloud_memory.specs.UserDedup.Spending
pub use Rattle.cloud_memory.specs.UserDedup.command
pub use Rattle.cloud_memory.specs.UserDedup.file_list
