-- What container_log says, for callers.
pub use Rattle.server_commands.specs.ContainerLog.Caches
pub use Rattle.server_commands.specs.ContainerLog.Laying
pub use Rattle.server_commands.specs.ContainerLog.States
