-- What session says, for callers.
pub use Rattle.two_worlds.specs.Session.Scripts
pub use Rattle.two_worlds.specs.Session.Spelling
pub use Rattle.two_worlds.specs.Session.Texts
pub use Rattle.two_worlds.specs.Session.event
