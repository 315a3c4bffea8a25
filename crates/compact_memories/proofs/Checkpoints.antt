-- What checkpoints has proved, for callers.
pub use Rattle.checkpoints.proofs.Apartness
pub use Rattle.checkpoints.proofs.Counted
pub use Rattle.checkpoints.proofs.EntryLaw
pub use Rattle.checkpoints.proofs.FullBatches
pub use Rattle.checkpoints.proofs.Given
pub use Rattle.checkpoints.proofs.Holders
pub use Rattle.checkpoints.proofs.InPlace
pub use Rattle.checkpoints.proofs.KeptLaw
pub use Rattle.checkpoints.proofs.OwnLaw
pub use Rattle.checkpoints.proofs.Owns
pub use Rattle.checkpoints.proofs.Picks
pub use Rattle.checkpoints.proofs.RecordsLaw
pub use Rattle.checkpoints.proofs.RoomLaw
pub use Rattle.checkpoints.proofs.Sought
pub use Rattle.checkpoints.proofs.Summed
