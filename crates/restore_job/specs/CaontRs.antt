-- What caont_rs says, for callers.
pub use Rattle.caont_rs.specs.Opening
pub use Rattle.caont_rs.specs.Package
pub use Rattle.caont_rs.specs.declared.opening
