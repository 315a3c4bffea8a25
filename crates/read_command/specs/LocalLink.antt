-- What local_link says, for callers.
pub use Rattle.local_link.specs.Calls
