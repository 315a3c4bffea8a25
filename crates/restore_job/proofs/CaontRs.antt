-- What caont_rs has proved, for callers.
pub use Rattle.caont_rs.proofs.Opened
