-- What transcript says, for callers.
pub use Rattle.transcript.specs.Endings
pub use Rattle.transcript.specs.Ranges
pub use Rattle.transcript.specs.Reading
pub use Rattle.transcript.specs.Transcript
pub use Rattle.transcript.specs.Words
pub use Rattle.transcript.specs.declared.ending
pub use Rattle.transcript.specs.declared.line
pub use Rattle.transcript.specs.declared.news
pub use Rattle.transcript.specs.declared.refusal
