-- What cloud_areas has proved, for callers.
pub use Rattle.cloud_disk.proofs.CloudAreas.Apart
pub use Rattle.cloud_disk.proofs.CloudAreas.Behind
pub use Rattle.cloud_disk.proofs.CloudAreas.Counting
pub use Rattle.cloud_disk.proofs.CloudAreas.Ends
pub use Rattle.cloud_disk.proofs.CloudAreas.Entries
pub use Rattle.cloud_memory.proofs.CloudAreas.Laid
pub use Rattle.cloud_disk.proofs.CloudAreas.Lists
pub use Rattle.cloud_memory.proofs.CloudAreas.Numbers
pub use Rattle.cloud_disk.proofs.CloudAreas.Once
pub use Rattle.cloud_memory.proofs.CloudAreas.OneChain
pub use Rattle.cloud_disk.proofs.CloudAreas.Placed
pub use Rattle.cloud_disk.proofs.CloudAreas.Room
