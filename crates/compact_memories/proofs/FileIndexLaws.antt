-- What file_index has proved, for callers.
pub use Rattle.checkpoints.proofs.FileIndexLaws.Order
