-- What caont_rs has proved, for callers.
pub use Rattle.upload_job.proofs.CaontRs.Opened
pub use Rattle.upload_job.proofs.CaontRs.Openings
