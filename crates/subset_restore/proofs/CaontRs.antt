-- What caont_rs has proved, for callers.
pub use Rattle.restore_job.proofs.CaontRs.Opened
