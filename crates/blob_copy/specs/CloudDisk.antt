-- What cloud_disk says, for callers.
pub use Rattle.fresh_checkpoints.specs.CloudDisk.Disk
