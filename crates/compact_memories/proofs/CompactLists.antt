-- What compact_lists has proved, for callers.
pub use Rattle.compact_lists.proofs.Parts
pub use Rattle.compact_lists.proofs.RoomLaws
pub use Rattle.compact_lists.proofs.Spent
pub use Rattle.compact_lists.proofs.Sums
