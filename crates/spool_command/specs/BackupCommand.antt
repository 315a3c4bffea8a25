-- What backup_command says, for callers.
pub use Rattle.backup_command.specs.BackedUp
pub use Rattle.backup_command.specs.Reading
pub use Rattle.backup_command.specs.Sends
pub use Rattle.backup_command.specs.Writing
