-- What cloud_areas has proved, for callers.
pub use Rattle.cloud_memory.proofs.CloudAreas.Apart
pub use Rattle.cloud_memory.proofs.CloudAreas.Behind
pub use Rattle.cloud_memory.proofs.CloudAreas.Counting
pub use Rattle.cloud_memory.proofs.CloudAreas.Ends
pub use Rattle.cloud_memory.proofs.CloudAreas.Entries
pub use Rattle.cloud_memory.proofs.CloudAreas.Lists
pub use Rattle.cloud_memory.proofs.CloudAreas.Once
pub use Rattle.cloud_memory.proofs.CloudAreas.Placed
pub use Rattle.cloud_memory.proofs.CloudAreas.Room
