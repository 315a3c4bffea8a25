-- What command_cloud says, for callers.
pub use Rattle.command_cloud.specs.Opened
pub use Rattle.command_cloud.specs.Unhindered
