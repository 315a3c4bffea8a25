-- What caont_rs says, for callers.
pub use Rattle.upload_job.specs.CaontRs.Opening
pub use Rattle.upload_job.specs.CaontRs.Package
pub use Rattle.upload_job.specs.CaontRs.opening
