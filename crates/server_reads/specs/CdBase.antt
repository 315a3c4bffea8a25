-- What cd_base says, for callers.
pub use Rattle.cloud_memory.specs.CdBase.Lending
pub use Rattle.cloud_memory.specs.CdBase.Limits
pub use Rattle.cloud_memory.specs.CdBase.Order
pub use Rattle.cloud_memory.specs.CdBase.Reading
pub use Rattle.cloud_memory.specs.CdBase.ids
pub use Rattle.cloud_memory.specs.CdBase.place
pub use Rattle.cloud_memory.specs.CdBase.rooms
pub use Rattle.cloud_memory.specs.CdBase.shape
