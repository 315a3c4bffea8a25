-- What user_dedup says, for callers.
pub use Rattle.cloud_opening.specs.UserDedup.command
