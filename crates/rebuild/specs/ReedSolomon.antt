-- What reed_solomon says, for callers.
pub use Rattle.kept_files.specs.ReedSolomon.Dispersal
