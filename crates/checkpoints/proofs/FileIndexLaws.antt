-- What file_index has proved, for callers.
pub use Rattle.cloud_memory.proofs.FileIndexLaws.Order
