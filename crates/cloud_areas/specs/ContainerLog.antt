-- What container_log says, for callers.
pub use Rattle.container_log.specs.Caches
pub use Rattle.container_log.specs.Kept
pub use Rattle.container_log.specs.Laying
pub use Rattle.container_log.specs.Places
pub use Rattle.container_log.specs.States
pub use Rattle.container_log.specs.contracts.log
