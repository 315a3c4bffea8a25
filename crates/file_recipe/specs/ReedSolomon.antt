-- What reed_solomon says, for callers.
pub use Rattle.caont_rs.specs.ReedSolomon.Dispersal
pub use Rattle.caont_rs.specs.ReedSolomon.Interpolation
