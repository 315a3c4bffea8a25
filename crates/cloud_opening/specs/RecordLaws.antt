-- What record_laws says, for callers.
pub use Rattle.record_laws.specs.Fronts
pub use Rattle.record_laws.specs.Leaving
