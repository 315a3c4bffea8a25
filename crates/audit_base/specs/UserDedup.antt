-- What user_dedup says, for callers.
pub use Rattle.cloud_memory.specs.UserDedup.Cloud
pub use Rattle.cloud_memory.specs.UserDedup.Owning
