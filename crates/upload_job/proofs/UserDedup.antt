-- What user_dedup has proved, for callers.
pub use Rattle.user_dedup.proofs.Asked
pub use Rattle.user_dedup.proofs.Growing
pub use Rattle.user_dedup.proofs.Owned
pub use Rattle.user_dedup.proofs.Pages
pub use Rattle.user_dedup.proofs.Sound
pub use Rattle.user_dedup.proofs.Suiting
pub use Rattle.user_dedup.proofs.Views
