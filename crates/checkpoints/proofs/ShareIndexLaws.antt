-- What share_index has proved, for callers.
pub use Rattle.cloud_memory.proofs.ShareIndexLaws.Owning
pub use Rattle.cloud_memory.proofs.ShareIndexLaws.Placing
