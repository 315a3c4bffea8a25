-- What cloud_areas has proved, for callers.
pub use Rattle.cloud_areas.proofs.Apart
pub use Rattle.cloud_areas.proofs.Behind
pub use Rattle.cloud_areas.proofs.Counting
pub use Rattle.cloud_areas.proofs.Ends
pub use Rattle.cloud_areas.proofs.Entries
pub use Rattle.cloud_areas.proofs.Lists
pub use Rattle.cloud_areas.proofs.Once
pub use Rattle.cloud_areas.proofs.Placed
pub use Rattle.cloud_areas.proofs.Room
pub use Rattle.cloud_areas.proofs.Summing
