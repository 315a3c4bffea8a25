-- What file_index has proved, for callers.
pub use Rattle.file_index.proofs.Order
