-- What server_commands says, for callers.
pub use Rattle.server_commands.specs.Entering
pub use Rattle.server_commands.specs.Executing
pub use Rattle.server_commands.specs.Growing
pub use Rattle.server_commands.specs.Leaving
pub use Rattle.server_commands.specs.ServerReads
pub use Rattle.server_commands.specs.Serving
pub use Rattle.server_commands.specs.JournalHalves
