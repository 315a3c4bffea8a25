-- What server_commands says, for callers.
pub use Rattle.share_server.specs.ServerCommands.Entering
pub use Rattle.share_server.specs.ServerCommands.Leaving
