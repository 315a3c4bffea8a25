-- What cd_base says, for callers.
pub use Rattle.user_dedup.specs.CdBase.Lengths
pub use Rattle.user_dedup.specs.CdBase.Limits
pub use Rattle.user_dedup.specs.CdBase.Numbers
pub use Rattle.user_dedup.specs.CdBase.ids
pub use Rattle.user_dedup.specs.CdBase.shape
