-- What cloud_memory has proved, for callers.
pub use Rattle.cloud_memory.proofs.Adding
pub use Rattle.cloud_memory.proofs.EndsLaw
pub use Rattle.cloud_memory.proofs.Fitting
pub use Rattle.cloud_memory.proofs.FullRooms
pub use Rattle.cloud_memory.proofs.Lists
pub use Rattle.cloud_memory.proofs.PlacingLaw
pub use Rattle.cloud_memory.proofs.Puts
pub use Rattle.cloud_memory.proofs.Recording
