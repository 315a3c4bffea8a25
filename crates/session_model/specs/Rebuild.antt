-- What rebuild says, for callers.
pub use Rattle.rebuild.specs.Found
pub use Rattle.rebuild.specs.Kept
pub use Rattle.rebuild.specs.KeptFiles
pub use Rattle.rebuild.specs.Over
pub use Rattle.rebuild.specs.Rebuilding
pub use Rattle.rebuild.specs.Standing
pub use Rattle.rebuild.specs.Turns
pub use Rattle.rebuild.specs.declared.error
pub use Rattle.rebuild.specs.declared.skips
