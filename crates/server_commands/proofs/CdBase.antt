-- What cd_base has proved, for callers.
pub use Rattle.server_reads.proofs.CdBase.Lent
