-- What cloud_memory has proved, for callers.
pub use Rattle.checkpoints.proofs.CloudMemoryLaws.Beginning
pub use Rattle.checkpoints.proofs.CloudMemoryLaws.Fitting
pub use Rattle.checkpoints.proofs.CloudMemoryLaws.FullRooms
pub use Rattle.checkpoints.proofs.CloudMemoryLaws.KeyCounts
pub use Rattle.checkpoints.proofs.CloudMemoryLaws.Lists
pub use Rattle.checkpoints.proofs.CloudMemoryLaws.Naming
pub use Rattle.checkpoints.proofs.CloudMemoryLaws.Puts
