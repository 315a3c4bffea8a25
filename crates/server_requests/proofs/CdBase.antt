-- What cd_base has proved, for callers.
pub use Rattle.server_commands.proofs.CdBase.Lent
