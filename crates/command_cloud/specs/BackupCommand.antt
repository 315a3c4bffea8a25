-- What backup_command says, for callers.
pub use Rattle.backup_command.specs.Reading
pub use Rattle.backup_command.specs.Writing
