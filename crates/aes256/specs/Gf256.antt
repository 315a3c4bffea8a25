-- What gf256 says, for callers.
pub use Rattle.gf256.specs.Field
