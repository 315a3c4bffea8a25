-- What cd_base has proved, for callers.
pub use Rattle.spent_table.proofs.CdBase.Lent
