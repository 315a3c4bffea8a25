-- What server_commands says, for callers.
pub use Rattle.server_requests.specs.ServerCommands.Entering
pub use Rattle.server_requests.specs.ServerCommands.Growing
pub use Rattle.server_requests.specs.ServerCommands.Leaving
pub use Rattle.server_requests.specs.ServerCommands.ServerReads
