-- What cloud_areas has proved, for callers.
pub use Rattle.cloud_areas.proofs.Apart
pub use Rattle.cloud_areas.proofs.Behind
pub use Rattle.cloud_areas.proofs.Counting
pub use Rattle.cloud_areas.proofs.Ends
pub use Rattle.cloud_areas.proofs.Entries
pub use Rattle.cloud_areas.proofs.Laid
pub use Rattle.cloud_areas.proofs.Lists
pub use Rattle.cloud_areas.proofs.Numbers
pub use Rattle.cloud_areas.proofs.Once
pub use Rattle.cloud_areas.proofs.OneChain
pub use Rattle.cloud_areas.proofs.Placed
pub use Rattle.cloud_areas.proofs.Room
