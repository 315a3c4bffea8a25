-- What session says, for callers.
pub use Rattle.session.specs.Fault
pub use Rattle.session.specs.Lines
pub use Rattle.session.specs.Reading
pub use Rattle.session.specs.Scripts
pub use Rattle.session.specs.Spelling
pub use Rattle.session.specs.Texts
pub use Rattle.session.specs.declared.event
pub use Rattle.session.specs.declared.lines
pub use Rattle.session.specs.declared.reading
