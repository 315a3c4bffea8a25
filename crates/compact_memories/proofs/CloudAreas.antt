-- What cloud_areas has proved, for callers.
pub use Rattle.checkpoints.proofs.CloudAreas.Apart
pub use Rattle.checkpoints.proofs.CloudAreas.Behind
pub use Rattle.checkpoints.proofs.CloudAreas.Counting
pub use Rattle.checkpoints.proofs.CloudAreas.Ends
pub use Rattle.checkpoints.proofs.CloudAreas.Entries
pub use Rattle.checkpoints.proofs.CloudAreas.Lists
pub use Rattle.checkpoints.proofs.CloudAreas.Numbers
pub use Rattle.checkpoints.proofs.CloudAreas.Once
pub use Rattle.checkpoints.proofs.CloudAreas.OneChain
pub use Rattle.checkpoints.proofs.CloudAreas.Placed
