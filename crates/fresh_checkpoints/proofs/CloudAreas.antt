-- What cloud_areas has proved, for callers.
pub use Rattle.cloud_disk.proofs.CloudAreas.Ends
pub use Rattle.cloud_disk.proofs.CloudAreas.Lists
pub use Rattle.cloud_disk.proofs.CloudAreas.Room
pub use Rattle.cloud_disk.proofs.CloudAreas.Summing
