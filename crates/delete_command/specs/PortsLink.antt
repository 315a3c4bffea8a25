-- What ports_link says, for callers.
pub use Rattle.ports_link.specs.Dialled
