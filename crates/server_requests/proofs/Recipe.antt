-- What recipe has proved, for callers.
pub use Rattle.server_commands.proofs.RecipeLaws.Written
