-- What session says, for callers.
pub use Rattle.session_model.specs.Session.Fault
pub use Rattle.session_model.specs.Session.Lines
pub use Rattle.session_model.specs.Session.Reading
pub use Rattle.session_model.specs.Session.Scripts
pub use Rattle.session_model.specs.Session.Spelling
pub use Rattle.session_model.specs.Session.Texts
pub use Rattle.session_model.specs.Session.event
pub use Rattle.session_model.specs.Session.lines
pub use Rattle.session_model.specs.Session.reading
