-- What cd_base says, for callers.
pub use Rattle.cloud_memory.specs.CdBase.Order
pub use Rattle.cloud_memory.specs.CdBase.ids
pub use Rattle.cloud_memory.specs.CdBase.place
pub use Rattle.cloud_memory.specs.CdBase.shape
