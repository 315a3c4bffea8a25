-- What share_index has proved, for callers.
pub use Rattle.checkpoints.proofs.ShareIndexLaws.Owning
pub use Rattle.checkpoints.proofs.ShareIndexLaws.Placing
