-- What reed_solomon says, for callers.
pub use Rattle.reed_solomon.specs.Dispersal
pub use Rattle.reed_solomon.specs.Interpolation
