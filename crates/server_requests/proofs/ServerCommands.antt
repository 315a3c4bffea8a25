-- What server_commands has proved, for callers.
pub use Rattle.server_commands.proofs.Doing
