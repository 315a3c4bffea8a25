-- What cloud_memory has proved, for callers.
pub use Rattle.cloud_memory.proofs.Beginning
pub use Rattle.cloud_memory.proofs.Fitting
pub use Rattle.cloud_memory.proofs.FullRooms
pub use Rattle.cloud_memory.proofs.KeyCounts
pub use Rattle.cloud_memory.proofs.Keys
pub use Rattle.cloud_memory.proofs.Lists
pub use Rattle.cloud_memory.proofs.Naming
pub use Rattle.cloud_memory.proofs.Next
pub use Rattle.cloud_memory.proofs.Puts
