-- What cd_base says, for callers.
pub use Rattle.cloud_disk.specs.CdBase.Limits
pub use Rattle.cloud_disk.specs.CdBase.ids
pub use Rattle.cloud_disk.specs.CdBase.place
pub use Rattle.cloud_disk.specs.CdBase.rooms
pub use Rattle.cloud_disk.specs.CdBase.shape
