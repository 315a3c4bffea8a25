-- What transcript says, for callers.
pub use Rattle.session_model.specs.Transcript.Endings
pub use Rattle.session_model.specs.Transcript.Transcript
pub use Rattle.session_model.specs.Transcript.ending
pub use Rattle.session_model.specs.Transcript.line
