-- What cloud_disk says, for callers.
pub use Rattle.cloud_store.specs.CloudDisk.Disk
