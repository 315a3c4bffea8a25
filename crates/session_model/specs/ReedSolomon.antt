-- What reed_solomon says, for callers.
pub use Rattle.rebuild.specs.ReedSolomon.Dispersal
