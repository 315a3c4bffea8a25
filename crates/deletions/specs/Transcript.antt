-- What transcript says, for callers.
pub use Rattle.transcript.specs.Transcript
pub use Rattle.transcript.specs.declared.line
