-- What cd_base says, for callers.
pub use Rattle.user_dedup.specs.CdBase.Limits
pub use Rattle.user_dedup.specs.CdBase.Order
pub use Rattle.user_dedup.specs.CdBase.ids
pub use Rattle.user_dedup.specs.CdBase.place
pub use Rattle.user_dedup.specs.CdBase.rooms
pub use Rattle.user_dedup.specs.CdBase.shape
