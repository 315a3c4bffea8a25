-- What caont_rs says, for callers.
pub use Rattle.caont_rs.specs.Package
