-- What cloud_disk says, for callers.
pub use Rattle.cloud_disk.specs.Disk
pub use Rattle.cloud_disk.specs.Held
