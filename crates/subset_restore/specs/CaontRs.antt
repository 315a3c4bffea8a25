-- What caont_rs says, for callers.
pub use Rattle.restore_job.specs.CaontRs.Opening
pub use Rattle.restore_job.specs.CaontRs.Package
pub use Rattle.restore_job.specs.CaontRs.opening
