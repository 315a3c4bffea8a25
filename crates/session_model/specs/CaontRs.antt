-- What caont_rs says, for callers.
pub use Rattle.subset_restore.specs.CaontRs.Opening
pub use Rattle.subset_restore.specs.CaontRs.Package
pub use Rattle.subset_restore.specs.CaontRs.opening
