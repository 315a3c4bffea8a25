-- What rebuild has proved, for callers.
pub use Rattle.rebuild.proofs.Cut
pub use Rattle.rebuild.proofs.Lacking
pub use Rattle.rebuild.proofs.Turning
