-- What transcript says, for callers.
pub use Rattle.session.specs.Transcript.Endings
pub use Rattle.session.specs.Transcript.Transcript
pub use Rattle.session.specs.Transcript.ending
pub use Rattle.session.specs.Transcript.line
pub use Rattle.session.specs.Transcript.news
pub use Rattle.session.specs.Transcript.refusal
