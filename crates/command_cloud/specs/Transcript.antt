-- What transcript says, for callers.
pub use Rattle.backup_command.specs.Transcript.Endings
pub use Rattle.backup_command.specs.Transcript.Reading
pub use Rattle.backup_command.specs.Transcript.Transcript
pub use Rattle.backup_command.specs.Transcript.ending
pub use Rattle.backup_command.specs.Transcript.line
pub use Rattle.backup_command.specs.Transcript.refusal
