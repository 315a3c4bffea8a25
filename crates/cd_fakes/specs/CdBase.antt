-- What cd_base says, for callers.
pub use Rattle.mem_disk.specs.CdBase.Limits
pub use Rattle.mem_disk.specs.CdBase.Numbers
pub use Rattle.mem_disk.specs.CdBase.shape
