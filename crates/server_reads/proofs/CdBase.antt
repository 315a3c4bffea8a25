-- What cd_base has proved, for callers.
pub use Rattle.cloud_memory.proofs.CdBase.Lent
