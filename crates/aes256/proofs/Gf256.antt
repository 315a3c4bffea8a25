-- What gf256 has proved, for callers.
pub use Rattle.gf256.proofs.Laws
