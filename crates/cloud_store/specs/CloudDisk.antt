-- What cloud_disk says, for callers.
pub use Rattle.checkpoints.specs.CloudDisk.Disk
pub use Rattle.checkpoints.specs.CloudDisk.Held
