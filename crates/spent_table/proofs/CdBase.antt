-- What cd_base has proved, for callers.
pub use Rattle.cd_base.proofs.Lent
