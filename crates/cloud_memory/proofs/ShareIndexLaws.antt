-- What share_index has proved, for callers.
pub use Rattle.share_index.proofs.Indexing
pub use Rattle.share_index.proofs.Owning
pub use Rattle.share_index.proofs.Placing
